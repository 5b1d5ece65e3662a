use Rattle.jrn_format.proofs.JournalGrammar.{one_journal}
use Rattle.jrn_format.proofs.laws.one_journal.Goals as goal

pub returns : goal.returns
returns c = one_journal
