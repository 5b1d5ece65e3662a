use Rattle.book_model.proofs.DiskEndLaws.{up-ends}
use Rattle.book_model.proofs.disk.up_as_an_action_ends.Goals as goal

pub returns : goal.returns
returns c = up-ends
