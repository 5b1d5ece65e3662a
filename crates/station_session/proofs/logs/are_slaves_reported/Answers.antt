use Rattle.std.proofs.Common.{ℕ, arith, length, refl, subst, sym}
use Rattle.std.proofs.lemmas.Option.{slice_get_read, slice_get_within}
use Rattle.site_file.specs.declared.asking.FileLog.{FileLog}
use Rattle.site_shadow.specs.declared.lending.LinePart.TheVariants as parts
use Rattle.script_session.specs.declared.logs.PartLog.{PartLog}
use Rattle.script_session.proofs.ReportedLaws.{before-next}
use Rattle.station_session.specs.RunFiles.{IsPartReported}
use Rattle.station_session.proofs.logs.are_slaves_reported.Goals as goal

pub loop-place-init : goal.loop-place-init
loop-place-init c = λ slave part inside here. absurd (omega (arith, inside))

pub loop-place-preserved : goal.loop-place-preserved
loop-place-preserved c =
    let reported = c.args.reported.now in
    let place = c.loop-place.place in
    let part = c.index-reported-place.result in
    before-next (λ (slave : ℕ) (one : PartLog FileLog). IsPartReported (parts.Slave slave) one.reported) reported place part
    (slice_get_read reported (length reported) place part refl c.loop-place-test.true c.index-reported-place.is)
    (subst (λ (one : PartLog FileLog). IsPartReported (parts.Slave place) one.reported) (sym c.index-reported-place.is) (c.is_part_reported.ensures c.if-not-is_part_reported.false))
    c.loop-place.invariant

pub returns : goal.returns
returns c = λ is slave part here. c.loop-place.invariant slave part (let inside = slice_get_within c.args.reported.now slave part here in omega (arith, inside)) here
