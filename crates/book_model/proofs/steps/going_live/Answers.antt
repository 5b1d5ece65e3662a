use Rattle.book_model.proofs.BookLaws.{open-sync-fits}
use Rattle.book_model.proofs.steps.going_live.Goals as goal

pub returns : goal.returns
returns c = open-sync-fits
