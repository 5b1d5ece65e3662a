use Rattle.book_model.proofs.WornBooks.{worn-rom_next, worn-rom_done}
use Rattle.book_model.proofs.wear.worn_as_a_slave_works.Goals as goal

pub returns : goal.returns
returns c = record { begins = worn-rom_next; ends = λ frame book state took machine i outcome up within worn. worn-rom_done frame book state took machine i up within worn outcome }
