use Rattle.std.proofs.Common.{ℕ, ◌+◌, List, sym, subst, arith}
use Rattle.esc_rom.proofs.SizeLaws.{FirstSizes, all_sizes, more_sizes, no_sizes}
use Rattle.esc_rom.proofs.owned.line_sizes.Goals as goal

pub loop-slave-init : goal.loop-slave-init
loop-slave-init g c =
    let line = g.S.Site.line c.args.site.now in
    let seen = g.S.Site.seen c.args.site.now in
    subst (λ (sizes : List ℕ). FirstSizes 0 sizes line seen) (sym c.new-sizes.ensures.items) (no_sizes line seen)

pub loop-slave-preserved : goal.loop-slave-preserved
loop-slave-preserved g c =
    let line = g.S.Site.line c.args.site.now in
    let seen = g.S.Site.seen c.args.site.now in
    let all = c.slaves-slave-end.ensures.slaves in
    let halves = c.slaves-slave-end.ensures.halves in
    let below = c.loop-slave-test.true in
    subst (λ (sizes : List ℕ). FirstSizes (c.loop-slave.slave + 1) sizes line seen) (sym c.in_ok-push.ensures.items)
    (more_sizes c.loop-slave.slave c.loop-slave.sizes.items line seen c.words_of.result (omega arith) (omega arith) c.words_of.ensures.size
    (c.words_of.ensures.words (c.requires c.loop-slave.slave (omega arith))) c.loop-slave.invariant)

pub returns : goal.returns
returns g c =
    let line = g.S.Site.line c.args.site.now in
    let seen = g.S.Site.seen c.args.site.now in
    let all = c.slaves-slave-end.ensures.slaves in
    let halves = c.slaves-slave-end.ensures.halves in
    let some = c.slaves-slave-end.ensures.some in
    let most = c.slaves-slave-end.ensures.most in
    let over = c.loop-slave-test.false in
    let end = c.loop-slave.auto.slave-end in
    all_sizes c.loop-slave.slave c.loop-slave.sizes.items line seen (omega arith) (omega arith) (omega arith) (omega arith) c.loop-slave.invariant
