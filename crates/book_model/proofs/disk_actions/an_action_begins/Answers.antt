use Rattle.book_model.proofs.NextLaws.{disk-begins}
use Rattle.book_model.proofs.disk_actions.an_action_begins.Goals as goal

pub returns : goal.returns
returns c = disk-begins
