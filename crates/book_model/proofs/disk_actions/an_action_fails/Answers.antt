use Rattle.book_model.proofs.DoneLaws.{disk-fails}
use Rattle.book_model.proofs.disk_actions.an_action_fails.Goals as goal

pub returns : goal.returns
returns c = disk-fails
