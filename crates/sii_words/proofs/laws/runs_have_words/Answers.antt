use Rattle.sii_words.proofs.RunLaws.{some-runs_between}
use Rattle.sii_words.proofs.laws.runs_have_words.Goals as goal

pub returns : goal.returns
returns c = some-runs_between
