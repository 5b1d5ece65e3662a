use Rattle.jrn_format.proofs.AreaLaws.{first_live}
use Rattle.jrn_format.proofs.laws.first_is_live.Goals as goal

pub returns : goal.returns
returns c = first_live
