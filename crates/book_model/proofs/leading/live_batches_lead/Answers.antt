use Rattle.book_model.specs.Book.{base_of, own, all_cells}
use Rattle.book_model.proofs.FitLaws.{kept-live}
use Rattle.book_model.proofs.leading.live_batches_lead.Goals as goal

pub returns : goal.returns
returns c = λ book gone left fits may. kept-live book.words (base_of book) (own book) book.durable book.halves (all_cells book.slaves) gone fits left may
