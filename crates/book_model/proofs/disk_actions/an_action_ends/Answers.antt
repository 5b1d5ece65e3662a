use Rattle.book_model.proofs.DoneLaws.{disk-ends}
use Rattle.book_model.proofs.disk_actions.an_action_ends.Goals as goal

pub returns : goal.returns
returns c = disk-ends
