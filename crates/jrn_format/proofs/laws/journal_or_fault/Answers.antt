use Rattle.jrn_format.proofs.JournalGrammar.{never_both}
use Rattle.jrn_format.proofs.laws.journal_or_fault.Goals as goal

pub returns : goal.returns
returns c = never_both
