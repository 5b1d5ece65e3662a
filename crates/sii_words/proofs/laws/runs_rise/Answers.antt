use Rattle.sii_words.proofs.RunLaws.{rising-runs_between}
use Rattle.sii_words.proofs.laws.runs_rise.Goals as goal

pub returns : goal.returns
returns c = rising-runs_between
