use Rattle.book_model.proofs.SubmitLaws.{up-submits}
use Rattle.book_model.proofs.calls.up_with_a_command_more.Goals as goal

pub returns : goal.returns
returns c = up-submits
