use Rattle.desk_laws.proofs.EventLaws.{happens-after}
use Rattle.desk_laws.proofs.laws.desk_calls_are_events.Goals as goal

pub returns : goal.returns
returns c = happens-after
