use Rattle.std.proofs.Common.{ℕ, ◌+◌, ◌<◌, List, length, slice_index, Ok, Err, refl, sym, subst, ◌∙◌, inl, inr, arith}
use Rattle.site_core.specs.Line.{Line}
use Rattle.esc_rom.specs.declared.fault.RomFault.TheVariants as rom
use Rattle.esc_rom.specs.Reading.{ReadsSlave, ReadsLine}
use Rattle.esc_rom.proofs.LineLaws.{FirstRead, first_none, first_more, all_read, line_fails, line_refused}
use Rattle.esc_rom.proofs.SlaveLaws.{handed_on}
use Rattle.esc_rom.specs.Reading.{ReadsInParts}
use Rattle.esc_rom.specs.Courses.{Takes}
use Rattle.esc_rom.specs.Sent.{ReadsSlaveBy, ReadsLineBy}
use Rattle.esc_rom.proofs.SentLaws.{first-none, first-more, line-breaks, line-no-memory, line-read, kept-as}
use Rattle.esc_rom.proofs.line_reading.read_slaves.Goals as goal

pub loop-slave-init : goal.loop-slave-init
loop-slave-init g c =
    let line = g.S.Site.line c.args.site.now in
    let seen = g.S.Site.seen c.args.site.now in
    record {
      first = subst (λ (plant : List (List ℕ)). FirstRead 0 plant line.sizes seen seen) (sym c.new-plant.ensures.items) (first_none line.sizes seen);
      frames = first-none line.sizes seen;
      line = refl;
    }

pub returns-in_err-read_slave-clause-reads : goal.returns-in_err-read_slave-clause-reads
returns-in_err-read_slave-clause-reads g c =
    let line = g.S.Site.line c.args.site.now in
    let a = g.S.Site.seen c.args.site.now in
    let b = g.S.Site.seen c.loop-slave.site in
    let d = g.S.Site.seen c.read_slave.new.site in
    let i = c.loop-slave.slave in
    let fault = c.in_err-read_slave.field-0.0 in
    let inside : i < length line.sizes = let all = c.slaves-slave-end.ensures.slaves in let below = c.loop-slave-test.true in omega arith in
    let reads = subst (λ (l : Line). ReadsSlave i (slice_index l.sizes i) b (Err fault) d) c.loop-slave.invariant.line c.in_err-read_slave.ensures.reads in
    subst (λ (r : _). ReadsLine (λ plant. plant.items) line.sizes a r d) (sym (handed_on c.from_residual.result fault c.from_residual.ensures.1))
    (line_fails (λ plant. plant.items) line.sizes i c.loop-slave.plant.items fault a b d inside c.loop-slave.invariant.first reads)

pub returns-in_err-push-clause-reads : goal.returns-in_err-push-clause-reads
returns-in_err-push-clause-reads g c =
    let line = g.S.Site.line c.args.site.now in
    let a = g.S.Site.seen c.args.site.now in
    let b = g.S.Site.seen c.loop-slave.site in
    let d = g.S.Site.seen c.read_slave.new.site in
    let i = c.loop-slave.slave in
    let words = c.in_ok-read_slave.field-0 in
    let inside : i < length line.sizes = let all = c.slaves-slave-end.ensures.slaves in let below = c.loop-slave-test.true in omega arith in
    let reads = subst (λ (l : Line). ReadsSlave i (slice_index l.sizes i) b (Ok words) d) c.loop-slave.invariant.line c.in_ok-read_slave.ensures.reads in
    subst (λ (r : _). ReadsLine (λ plant. plant.items) line.sizes a r d) (sym (handed_on c.from_residual-in_err-push.result rom.Memory c.from_residual-in_err-push.ensures.1))
    (line_refused (λ plant. plant.items) line.sizes i c.loop-slave.plant.items words a b d inside c.loop-slave.invariant.first reads)

pub loop-slave-preserved : goal.loop-slave-preserved
loop-slave-preserved g c =
    let line = g.S.Site.line c.args.site.now in
    let a = g.S.Site.seen c.args.site.now in
    let b = g.S.Site.seen c.loop-slave.site in
    let d = g.S.Site.seen c.read_slave.new.site in
    let i = c.loop-slave.slave in
    let words = c.in_ok-read_slave.field-0 in
    let inside : i < length line.sizes = let all = c.slaves-slave-end.ensures.slaves in let below = c.loop-slave-test.true in omega arith in
    let reads = subst (λ (l : Line). ReadsSlave i (slice_index l.sizes i) b (Ok words) d) c.loop-slave.invariant.line c.in_ok-read_slave.ensures.reads in
    record {
      first = subst (λ (plant : List (List ℕ)). FirstRead (i + 1) plant line.sizes a d) (sym c.in_ok-push.ensures.items)
          (first_more line.sizes i c.loop-slave.plant.items words a b d inside c.loop-slave.invariant.first reads);
      frames = first-more line.sizes i c.loop-slave.invariant.frames words
          (subst (λ (l : Line). Takes (ReadsSlaveBy i (slice_index l.sizes i)) b (Ok words) d) c.loop-slave.invariant.line c.in_ok-read_slave.ensures.frames);
      line = c.in_ok-read_slave.ensures.line ∙ c.loop-slave.invariant.line;
    }

pub returns-clause-reads : goal.returns-clause-reads
returns-clause-reads g c =
    let line = g.S.Site.line c.args.site.now in
    let all = c.slaves-slave-end.ensures.slaves in
    let halves = c.slaves-slave-end.ensures.halves in
    let some = c.slaves-slave-end.ensures.some in
    let over = c.loop-slave-test.false in
    let end = c.loop-slave.auto.slave-end in
    all_read (λ plant. plant.items) c.loop-slave.plant line.sizes c.loop-slave.slave (g.S.Site.seen c.args.site.now) (g.S.Site.seen c.loop-slave.site) (omega arith) (omega arith) (omega arith) c.loop-slave.invariant.first

pub returns-in_err-read_slave-clause-frames : goal.returns-in_err-read_slave-clause-frames
returns-in_err-read_slave-clause-frames g c =
    let line = g.S.Site.line c.args.site.now in
    let a = g.S.Site.seen c.args.site.now in
    let b = g.S.Site.seen c.loop-slave.site in
    let d = g.S.Site.seen c.read_slave.new.site in
    let i = c.loop-slave.slave in
    let inside : i < length line.sizes = let all = c.slaves-slave-end.ensures.slaves in let below = c.loop-slave-test.true in omega arith in
    let fault = c.in_err-read_slave.field-0.0 in
    subst (λ (r : _). Takes (ReadsLineBy line.sizes) a r d) (sym (handed_on c.from_residual.result fault c.from_residual.ensures.1))
    (line-breaks line.sizes i c.loop-slave.invariant.frames fault inside
    (subst (λ (l : Line). Takes {T = List ℕ} (ReadsSlaveBy i (slice_index l.sizes i)) b (Err fault) d) c.loop-slave.invariant.line c.in_err-read_slave.ensures.frames))

pub returns-in_err-read_slave-clause-kept : goal.returns-in_err-read_slave-clause-kept
returns-in_err-read_slave-clause-kept g c =
    let line = g.S.Site.line c.args.site.now in
    let a = g.S.Site.seen c.args.site.now in
    let b = g.S.Site.seen c.loop-slave.site in
    let d = g.S.Site.seen c.read_slave.new.site in
    let i = c.loop-slave.slave in
    let inside : i < length line.sizes = let all = c.slaves-slave-end.ensures.slaves in let below = c.loop-slave-test.true in omega arith in
    let fault = c.in_err-read_slave.field-0.0 in
    let parts = subst (λ (l : Line). ReadsInParts i (slice_index l.sizes i) b (Err fault) d) c.loop-slave.invariant.line c.in_err-read_slave.ensures.parts in
    let first = c.loop-slave.invariant.first in
    kept-as line.sizes a d c.from_residual.result fault (handed_on c.from_residual.result fault c.from_residual.ensures.1)
    (record { slave = i; inside = inside; reached = b; before = first.quiet; first = first.were_read; last = inl parts })

pub returns-in_err-push-clause-frames : goal.returns-in_err-push-clause-frames
returns-in_err-push-clause-frames g c =
    let line = g.S.Site.line c.args.site.now in
    let a = g.S.Site.seen c.args.site.now in
    let b = g.S.Site.seen c.loop-slave.site in
    let d = g.S.Site.seen c.read_slave.new.site in
    let i = c.loop-slave.slave in
    let inside : i < length line.sizes = let all = c.slaves-slave-end.ensures.slaves in let below = c.loop-slave-test.true in omega arith in
    let words = c.in_ok-read_slave.field-0 in
    subst (λ (r : _). Takes (ReadsLineBy line.sizes) a r d) (sym (handed_on c.from_residual-in_err-push.result rom.Memory c.from_residual-in_err-push.ensures.1))
    (line-no-memory line.sizes i inside (first-more line.sizes i c.loop-slave.invariant.frames words
    (subst (λ (l : Line). Takes (ReadsSlaveBy i (slice_index l.sizes i)) b (Ok words) d) c.loop-slave.invariant.line c.in_ok-read_slave.ensures.frames)))

pub returns-in_err-push-clause-kept : goal.returns-in_err-push-clause-kept
returns-in_err-push-clause-kept g c =
    let line = g.S.Site.line c.args.site.now in
    let a = g.S.Site.seen c.args.site.now in
    let b = g.S.Site.seen c.loop-slave.site in
    let d = g.S.Site.seen c.read_slave.new.site in
    let i = c.loop-slave.slave in
    let inside : i < length line.sizes = let all = c.slaves-slave-end.ensures.slaves in let below = c.loop-slave-test.true in omega arith in
    let words = c.in_ok-read_slave.field-0 in
    let parts = subst (λ (l : Line). ReadsInParts i (slice_index l.sizes i) b (Ok words) d) c.loop-slave.invariant.line c.in_ok-read_slave.ensures.parts in
    let first = c.loop-slave.invariant.first in
    kept-as line.sizes a d c.from_residual-in_err-push.result rom.Memory (handed_on c.from_residual-in_err-push.result rom.Memory c.from_residual-in_err-push.ensures.1)
    (record { slave = i; inside = inside; reached = b; before = first.quiet; first = first.were_read; last = inr (words, refl, parts) })

pub returns-clause-frames : goal.returns-clause-frames
returns-clause-frames g c =
    let line = g.S.Site.line c.args.site.now in
    let all = c.slaves-slave-end.ensures.slaves in
    let over = c.loop-slave-test.false in
    let end = c.loop-slave.auto.slave-end in
    line-read line.sizes c.loop-slave.slave c.loop-slave.plant (omega arith) c.loop-slave.invariant.frames
