use Rattle.book_model.proofs.CallLaws.{up-finished}
use Rattle.book_model.proofs.calls.up_once_finished.Goals as goal

pub returns : goal.returns
returns c = up-finished
