use Rattle.book_model.proofs.SlaveEventLaws.{up-back}
use Rattle.book_model.proofs.asking.up_as_a_slave_answers.Goals as goal

pub returns : goal.returns
returns c = λ frame book state took machine i half later outcome up within there back. up-back frame book state took machine i half later up within there outcome back
