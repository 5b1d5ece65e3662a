use Rattle.book_model.proofs.SettlingLaws.{retire-settled}
use Rattle.book_model.proofs.settling.the_test_before_a_retire.Goals as goal

pub returns : goal.returns
returns c = retire-settled
