use Rattle.std.proofs.Common.{length}
use Rattle.std.specs.Prelude.{IsErr, IsSomeAnd}
use Rattle.script_session.specs.Running.{EndsReported, OfDevices, whole_of}
use Rattle.script_session.proofs.SaysLaws.{fails_as}
use Rattle.wire_session.proofs.RunEnds.{run_fails, saves_run}
use Rattle.wire_session.proofs.running.run_site.Goals as goal

pub returns-clause-goes : goal.returns-clause-goes
returns-clause-goes g c new =
    let ran = c.run_line-answers in
    fails_as (OfDevices g.D.Device.follows g.D.Device.well g.D.Lends.tells ran.result.reported) (IsErr ran.result.ended) (IsErr c.of_own_parts.result)
    (λ failed. c.of_own_parts.ensures.failed (run_fails ran.result c.end_of.result c.end_of.ensures.ended failed)) c.args.start.site.seen
    c.args.task.work.commands.items new ran.ensures.goes

pub returns-clause-saved : goal.returns-clause-saved
returns-clause-saved g c =
    let ran = c.run_line-answers in
    saves_run _ (λ last. IsSomeAnd (whole_of ran.result.reported.desk ran.result.reported.after) (λ reported.
    EndsReported g.D.Device.follows g.D.Device.well g.D.Lends.tells c.args.task.turns c.args.start.site (length c.args.line.now.images.items) reported last.seen))
    ran.result c.end_of.result c.of_own_parts.result (g.S.Store.files ran.new.store) c.args.line.now c.args.start.site c.args.task.work.commands.items
    c.end_of.ensures.closed c.end_of.ensures.ended c.of_own_parts.ensures.own ran.ensures.saved
