use Rattle.book_model.proofs.GoesLaws.{up-rests}
use Rattle.book_model.proofs.up.up_while_a_slave_rests.Goals as goal

pub returns : goal.returns
returns c = up-rests
