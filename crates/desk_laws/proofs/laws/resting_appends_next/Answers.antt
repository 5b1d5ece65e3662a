use Rattle.desk_laws.proofs.FallLaws.{resting-next}
use Rattle.desk_laws.proofs.laws.resting_appends_next.Goals as goal

pub returns : goal.returns
returns c = resting-next
