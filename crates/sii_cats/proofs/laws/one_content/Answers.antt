use Rattle.sii_cats.proofs.Unique.{contents}
use Rattle.sii_cats.proofs.laws.one_content.Goals as goal

pub returns : goal.returns
returns c = contents
