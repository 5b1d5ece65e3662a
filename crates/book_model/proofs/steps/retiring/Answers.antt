use Rattle.book_model.proofs.BookLaws.{close-sync-fits}
use Rattle.book_model.proofs.steps.retiring.Goals as goal

pub returns : goal.returns
returns c = close-sync-fits
