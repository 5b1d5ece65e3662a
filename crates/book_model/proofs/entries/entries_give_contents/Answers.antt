use Rattle.book_model.proofs.CommandLaws.{entries-contents}
use Rattle.book_model.proofs.entries.entries_give_contents.Goals as goal

pub returns : goal.returns
returns c = entries-contents
