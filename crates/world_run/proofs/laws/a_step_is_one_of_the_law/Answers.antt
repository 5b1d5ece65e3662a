use Rattle.world_run.proofs.OpenLaws.{step-of_law}
use Rattle.world_run.proofs.laws.a_step_is_one_of_the_law.Goals as goal

pub returns : goal.returns
returns c = step-of_law
