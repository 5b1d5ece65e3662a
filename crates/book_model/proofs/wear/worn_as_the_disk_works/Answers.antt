use Rattle.book_model.proofs.WornBooks.{worn-disk_next, worn-disk_done}
use Rattle.book_model.proofs.wear.worn_as_the_disk_works.Goals as goal

pub returns : goal.returns
returns c = record { begins = worn-disk_next; ends = worn-disk_done }
