use Rattle.book_model.proofs.DiskEventLaws.{up-fails}
use Rattle.book_model.proofs.disk.up_as_an_action_fails.Goals as goal

pub returns : goal.returns
returns c = up-fails
