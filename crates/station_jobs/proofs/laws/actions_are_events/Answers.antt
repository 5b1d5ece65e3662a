use Rattle.station_jobs.proofs.ActionLaws.{actions-came-back}
use Rattle.station_jobs.proofs.laws.actions_are_events.Goals as goal

pub returns : goal.returns
returns c = λ log old new turn. actions-came-back log old new turn
