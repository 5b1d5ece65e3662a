use Rattle.book_model.proofs.WorkLaws.{up-works}
use Rattle.book_model.proofs.rom.up_as_the_next_word_is_issued.Goals as goal

pub returns : goal.returns
returns c = up-works
