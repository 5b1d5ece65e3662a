use Rattle.book_model.proofs.FormLaws.{journal-fails}
use Rattle.book_model.proofs.old_actions.an_action_fails.Goals as goal

pub returns : goal.returns
returns c = journal-fails
