use Rattle.book_model.proofs.OutcomeLaws.{up-settled}
use Rattle.book_model.proofs.rom.up_as_a_word_is_written.Goals as goal

pub returns : goal.returns
returns c = up-settled
