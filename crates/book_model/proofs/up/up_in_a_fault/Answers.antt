use Rattle.book_model.proofs.GoesLaws.{up-faulted}
use Rattle.book_model.proofs.up.up_in_a_fault.Goals as goal

pub returns : goal.returns
returns c = up-faulted
