use Rattle.desk_laws.proofs.FallLaws.{turns-rise}
use Rattle.desk_laws.proofs.laws.turns_never_fall.Goals as goal

pub returns : goal.returns
returns c = turns-rise
