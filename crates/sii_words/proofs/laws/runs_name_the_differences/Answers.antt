use Rattle.sii_words.proofs.RunLaws.{last_given-runs_between}
use Rattle.sii_words.proofs.laws.runs_name_the_differences.Goals as goal

pub returns : goal.returns
returns c = last_given-runs_between
