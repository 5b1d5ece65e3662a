use Rattle.station_line.proofs.Answering.{worst_of}
use Rattle.wire_session.proofs.running.end_of.Goals as goal

pub returns-in-Ok-ended-clause-ended : goal.returns-in-Ok-ended-clause-ended
returns-in-Ok-ended-clause-ended c =
    rw c.in-Ok-ended.is (worst_of c.args.answers c.in-Ok-ended.given c.status.result c.status-in-Ok-ended.result c.worse.result c.status.ensures c.status-in-Ok-ended.ensures c.worse.ensures.one c.worse.ensures.done)
