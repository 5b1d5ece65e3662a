use Rattle.station_jobs.proofs.CallLaws.{calls-came-back}
use Rattle.station_jobs.proofs.laws.calls_are_events.Goals as goal

pub returns : goal.returns
returns c = λ slave log old new turn. calls-came-back slave log old new turn
