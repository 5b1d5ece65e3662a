use Rattle.std.proofs.Common.{◌≡◌, ◌<◌, ◌≤◌, ℕ, length, IfSome, slice_index, refl, sym, subst, ◌∙◌, arith}
use Rattle.std.proofs.lemmas.Grind.{common_steps}
use Rattle.std.proofs.lemmas.Option.{slice_get_read}
use Rattle.site_shadow.specs.Process.{memories_of}
use Rattle.site_shadow.specs.Site.{HasSize}
use Rattle.site_shadow.proofs.Completes.{IsComplete-all, IsComplete-half, SizesFit-more}
use Rattle.site_shadow.proofs.site.Parts.is_complete.Goals as goal

pub loop-slave-preserved : goal.loop-slave-preserved
loop-slave-preserved c =
    let within : c.loop-slave.slave < length c.args.self.now.halves.items = grind (arith, common_steps) in
    let here = slice_get_read c.args.self.now.halves.items (length c.args.self.now.halves.items) c.loop-slave.slave c.index.result.now refl within c.index.ensures in
    let size : c.index-in-loop-slave.result.now ≡ slice_index c.args.self.now.sizes.items c.loop-slave.slave = grind (arith, common_steps) in
    let has : HasSize c.index.result.now (slice_index c.args.self.now.sizes.items c.loop-slave.slave) = subst (λ (n : ℕ). HasSize c.index.result.now n) size (c.has_size.ensures.0 c.if-not-has_size.false) in
    SizesFit-more c.args.self.now.halves.items c.args.self.now.sizes.items c.loop-slave.slave c.index.result.now c.loop-slave.invariant here has

pub returns-then-not-has_size : goal.returns-then-not-has_size
returns-then-not-has_size c = (
  λ never. absurd cc,
  λ entire.
      let within : c.loop-slave.slave < length c.args.self.now.halves.items = grind (arith, common_steps) in
      let here = slice_get_read c.args.self.now.halves.items (length c.args.self.now.halves.items) c.loop-slave.slave c.index.result.now refl within c.index.ensures in
      let size : c.index-in-loop-slave.result.now ≡ slice_index c.args.self.now.sizes.items c.loop-slave.slave = grind (arith, common_steps) in
      let has = IsComplete-half c.args.self.now.halves.items c.args.self.now.sizes.items (memories_of c.args.self.now.process) c.loop-slave.slave c.index.result.now entire.line here in
      sym c.if-not-has_size.true ∙ c.has_size.ensures.1 (subst (λ (n : ℕ). HasSize c.index.result.now n) (sym size) has),
)

pub returns : goal.returns
returns c = (
  λ _.
      let count : c.len-count.result ≡ length c.args.self.now.sizes.items = grind (arith, common_steps) in
      let each : length c.args.self.now.halves.items ≡ c.len-count.result = grind (arith, common_steps) in
      let some : 1 ≤ length c.args.self.now.sizes.items = grind (arith, common_steps) in
      let most : length c.args.self.now.sizes.items ≤ 64 = grind (arith, common_steps) in
      let processes = subst (λ (n : ℕ). IfSome (memories_of c.args.self.now.process) (λ halves. length halves ≡ n)) count (c.are_so_many.ensures.0 c.if-not-are_so_many.false) in
      record {
        line = IsComplete-all c.args.self.now.halves.items c.args.self.now.sizes.items (memories_of c.args.self.now.process) some most (each ∙ count)
            (λ slave half below here. c.loop-slave.invariant slave half (omega arith) here) processes;
      },
  λ _. refl,
)
