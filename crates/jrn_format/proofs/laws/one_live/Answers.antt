use Rattle.jrn_format.proofs.AreaLaws.{one_live}
use Rattle.jrn_format.proofs.laws.one_live.Goals as goal

pub returns : goal.returns
returns c = one_live
