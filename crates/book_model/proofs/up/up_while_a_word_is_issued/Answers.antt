use Rattle.book_model.proofs.RomLaws.{up-issues}
use Rattle.book_model.proofs.up.up_while_a_word_is_issued.Goals as goal

pub returns : goal.returns
returns c = up-issues
