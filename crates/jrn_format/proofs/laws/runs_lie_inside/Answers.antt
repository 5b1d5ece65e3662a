use Rattle.jrn_format.proofs.Within.{inside_plant}
use Rattle.jrn_format.proofs.laws.runs_lie_inside.Goals as goal

pub returns : goal.returns
returns c = inside_plant
