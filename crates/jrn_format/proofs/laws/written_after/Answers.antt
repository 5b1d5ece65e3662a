use Rattle.jrn_format.proofs.AreaLaws.{same_before}
use Rattle.jrn_format.proofs.laws.written_after.Goals as goal

pub returns : goal.returns
returns c = same_before
