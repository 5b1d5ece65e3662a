use Rattle.site_journal.proofs.WordLaws.{few-issued}
use Rattle.site_journal.proofs.recovering.few_words_are_issued.Goals as goal

pub returns : goal.returns
returns c = few-issued
