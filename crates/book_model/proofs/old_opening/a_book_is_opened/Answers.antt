use Rattle.book_model.proofs.FoundLaws.{book-found}
use Rattle.book_model.proofs.old_opening.a_book_is_opened.Goals as goal

pub returns : goal.returns
returns c = λ words journal disk is synced entire. let f = book-found words journal disk is synced entire in (f.frame, f.line, f.fits)
