use Rattle.book_model.specs.Book.{base_of, own, all_cells}
use Rattle.book_model.proofs.FitLaws.{kept-newer}
use Rattle.book_model.proofs.leading.the_newer_half_leads.Goals as goal

pub returns : goal.returns
returns c = λ book gone left fits may settled. kept-newer book.words (base_of book) (own book) book.durable book.halves (all_cells book.slaves) gone fits settled left may
