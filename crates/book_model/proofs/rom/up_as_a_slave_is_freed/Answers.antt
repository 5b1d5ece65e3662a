use Rattle.book_model.proofs.OutcomeLaws.{up-freed}
use Rattle.book_model.proofs.rom.up_as_a_slave_is_freed.Goals as goal

pub returns : goal.returns
returns c = up-freed
