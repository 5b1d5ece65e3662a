use Rattle.book_model.proofs.BookLaws.{issued-fits}
use Rattle.book_model.proofs.steps.issuing.Goals as goal

pub returns : goal.returns
returns c = issued-fits
