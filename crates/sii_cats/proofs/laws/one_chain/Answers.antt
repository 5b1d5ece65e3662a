use Rattle.sii_cats.proofs.Unique.{chains, cuts}
use Rattle.sii_cats.proofs.laws.one_chain.Goals as goal

pub returns-clause-unique : goal.returns-clause-unique
returns-clause-unique c = chains

pub returns-clause-cut : goal.returns-clause-cut
returns-clause-cut c = cuts
