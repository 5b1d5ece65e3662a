use Rattle.jrn_format.proofs.InsideLaws.{batches-inside}
use Rattle.jrn_format.proofs.opening.runs_of_batches_lie_inside.Goals as goal

pub returns : goal.returns
returns c = batches-inside
