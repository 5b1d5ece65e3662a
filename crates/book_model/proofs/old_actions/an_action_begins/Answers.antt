use Rattle.book_model.proofs.FormLaws.{journal-begins}
use Rattle.book_model.proofs.old_actions.an_action_begins.Goals as goal

pub returns : goal.returns
returns c = journal-begins
