use Rattle.jrn_format.proofs.JournalGrammar.{one_fault}
use Rattle.jrn_format.proofs.laws.one_fault.Goals as goal

pub returns : goal.returns
returns c = one_fault
