use Rattle.std.proofs.Common.{ℕ, arith, length, refl, subst, sym}
use Rattle.std.proofs.lemmas.Option.{slice_get_read, slice_get_within}
use Rattle.site_shadow.specs.declared.lending.LinePart.TheVariants as part
use Rattle.script_session.specs.declared.logs.PartLog.{PartLog}
use Rattle.script_session.proofs.ReportedLaws.{before-next}
use Rattle.wire_session.proofs.logs.are_of_slaves.Goals as goal

pub loop-slave-init : goal.loop-slave-init
loop-slave-init g c = λ slave reported inside here. absurd (omega (arith, inside))

pub loop-slave-preserved : goal.loop-slave-preserved
loop-slave-preserved g c =
    let parts = c.args.parts.now in
    let slave = c.loop-slave.slave in
    let reported = c.index-parts-slave.result in
    before-next (λ (k : ℕ) (one : PartLog _). g.D.TellsPart.is_of (part.Slave k) one.reported) parts slave reported
    (slice_get_read parts (length parts) slave reported refl c.loop-slave-test.true c.index-parts-slave.is)
    (subst (λ (one : PartLog _). g.D.TellsPart.is_of (part.Slave slave) one.reported) (sym c.index-parts-slave.is) (c.is_reported_of.ensures c.if-not-is_reported_of.false))
    c.loop-slave.invariant

pub returns : goal.returns
returns g c = λ is slave reported here. c.loop-slave.invariant slave reported (let inside = slice_get_within c.args.parts.now slave reported here in omega (arith, inside)) here
