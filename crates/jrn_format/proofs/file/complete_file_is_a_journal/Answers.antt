use Rattle.jrn_format.proofs.CompleteLaws.{entire-journal}
use Rattle.jrn_format.proofs.file.complete_file_is_a_journal.Goals as goal

pub returns : goal.returns
returns c = entire-journal
