use Rattle.book_model.proofs.DiskEventLaws.{up-begins}
use Rattle.book_model.proofs.disk.up_as_an_action_begins.Goals as goal

pub returns : goal.returns
returns c = up-begins
