use Rattle.sii_words.proofs.RunLaws.{separate-runs_between}
use Rattle.sii_words.proofs.laws.runs_name_words_once.Goals as goal

pub returns : goal.returns
returns c = separate-runs_between
