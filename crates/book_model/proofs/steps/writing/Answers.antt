use Rattle.book_model.proofs.BookLaws.{written-word-fits}
use Rattle.book_model.proofs.steps.writing.Goals as goal

pub returns : goal.returns
returns c = written-word-fits
