use Rattle.book_model.proofs.RomLaws.{up-operation}
use Rattle.book_model.proofs.up.up_on_another_operation.Goals as goal

pub returns : goal.returns
returns c = up-operation
