use Rattle.book_model.specs.Book.{base_of, own, all_cells}
use Rattle.book_model.proofs.FitLaws.{kept-next}
use Rattle.book_model.proofs.leading.the_next_batch_leads.Goals as goal

pub returns : goal.returns
returns c = λ book gone left batch fits may is. kept-next book.words (base_of book) (own book) book.durable book.halves (all_cells book.slaves) gone fits batch is left may
