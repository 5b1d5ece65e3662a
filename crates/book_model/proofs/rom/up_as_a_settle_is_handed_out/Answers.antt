use Rattle.book_model.proofs.OutcomeLaws.{up-settles}
use Rattle.book_model.proofs.rom.up_as_a_settle_is_handed_out.Goals as goal

pub returns : goal.returns
returns c = up-settles
