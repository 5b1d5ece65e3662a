use Rattle.world_law.proofs.RunLaws.{start-stays}
use Rattle.world_law.proofs.laws.law.Goals as goal

pub returns : goal.returns
returns c = start-stays
