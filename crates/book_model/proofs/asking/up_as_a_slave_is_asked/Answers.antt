use Rattle.book_model.proofs.SlaveEventLaws.{up-asks}
use Rattle.book_model.proofs.asking.up_as_a_slave_is_asked.Goals as goal

pub returns : goal.returns
returns c = λ frame book state took machine i half later taken up within there begins. up-asks frame book state took machine i half later taken up within there begins
