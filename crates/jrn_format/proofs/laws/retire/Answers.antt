use Rattle.jrn_format.proofs.AreaLaws.{retired}
use Rattle.jrn_format.proofs.laws.retire.Goals as goal

pub returns : goal.returns
returns c = retired
