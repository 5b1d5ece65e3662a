use Rattle.book_model.proofs.SlaveLaws.{slave-written}
use Rattle.book_model.proofs.slaves.a_word_is_written.Goals as goal

pub returns : goal.returns
returns c = slave-written
