use Rattle.jrn_format.proofs.AreaLaws.{empty_live}
use Rattle.jrn_format.proofs.laws.nothing_is_live.Goals as goal

pub returns : goal.returns
returns c = empty_live
