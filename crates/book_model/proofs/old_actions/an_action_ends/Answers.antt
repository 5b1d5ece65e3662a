use Rattle.book_model.proofs.FormLaws.{journal-ends}
use Rattle.book_model.proofs.old_actions.an_action_ends.Goals as goal

pub returns : goal.returns
returns c = journal-ends
