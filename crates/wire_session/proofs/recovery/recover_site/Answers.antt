use Rattle.std.proofs.Common.{false, length}
use Rattle.std.specs.Prelude.{[], IsErr, IsSomeAnd}
use Rattle.script_session.specs.Recovering.{RecoversByThreads}
use Rattle.script_session.specs.Running.{EndsReported, OfDevices, OfRecovery}
use Rattle.script_session.proofs.SaysLaws.{fails_as}
use Rattle.wire_session.proofs.Recovering.{fails_printed, own_printed, saves_recovery}
use Rattle.wire_session.proofs.RunEnds.{run_fails}
use Rattle.wire_session.proofs.recovery.recover_site.Goals as goal

pub returns-clause-own : goal.returns-clause-own
returns-clause-own g c = own_printed _ c.end_of.result c.of_own_parts-ended.result c.print_recovered.result c.of_own_parts-ended.ensures.own c.print_recovered.ensures

pub returns-clause-goes : goal.returns-clause-goes
returns-clause-goes g c new =
    let ran = c.recover_by_threads-answers in
    let ended = c.of_own_parts-ended in
    fails_as (OfRecovery c.args.site.seen (OfDevices g.D.Device.follows g.D.Device.well g.D.Lends.tells ran.result.reported)) (IsErr ran.result.ended)
    (IsErr c.print_recovered.result)
    (λ failed. fails_printed ended.result c.print_recovered.result c.print_recovered.ensures
    (ended.ensures.failed (run_fails ran.result c.end_of.result c.end_of.ensures.ended failed))) c.args.site.seen [] new ran.ensures.goes

pub returns-clause-saved : goal.returns-clause-saved
returns-clause-saved g c =
    let ran = c.recover_by_threads-answers in
    let ended = c.of_own_parts-ended in
    saves_recovery _ (λ s. IsSomeAnd ran.result.recovered (λ all. RecoversByThreads c.args.site all s))
    (λ reported s. EndsReported g.D.Device.follows g.D.Device.well g.D.Lends.tells false c.args.site (length c.args.line.now.images.items) reported s.seen)
    ran.result c.end_of.result ended.result c.print_recovered.result (g.S.Store.files ran.new.store) c.args.line.now c.args.site.seen
    c.end_of.ensures.ended ended.ensures.own c.print_recovered.ensures ran.ensures.saved
