use Rattle.jrn_format.proofs.AreaLaws.{appended}
use Rattle.jrn_format.proofs.laws.append.Goals as goal

pub returns : goal.returns
returns c = appended
