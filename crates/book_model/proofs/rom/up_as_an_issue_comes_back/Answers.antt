use Rattle.book_model.proofs.OutcomeLaws.{up-issued}
use Rattle.book_model.proofs.rom.up_as_an_issue_comes_back.Goals as goal

pub returns : goal.returns
returns c = up-issued
