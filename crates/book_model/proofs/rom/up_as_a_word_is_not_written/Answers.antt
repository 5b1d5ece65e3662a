use Rattle.book_model.proofs.OutcomeLaws.{up-again, up-dead, up-stopped}
use Rattle.book_model.proofs.rom.up_as_a_word_is_not_written.Goals as goal

pub returns : goal.returns
returns c = record { again = up-again; dead = up-dead; stopped = up-stopped }
