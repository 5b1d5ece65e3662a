use Rattle.book_model.proofs.SlaveLaws.{slave-takes, slave-passes}
use Rattle.book_model.proofs.slaves.a_word_is_issued.Goals as goal

pub returns : goal.returns
returns c = record { taken = slave-takes; not_taken = slave-passes }
