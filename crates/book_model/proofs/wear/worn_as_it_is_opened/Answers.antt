use Rattle.book_model.proofs.WornBooks.{worn-opened}
use Rattle.book_model.proofs.wear.worn_as_it_is_opened.Goals as goal

pub returns : goal.returns
returns c = worn-opened
