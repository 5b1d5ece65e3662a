use Rattle.jrn_format.proofs.CompleteLaws.{journal-entire}
use Rattle.jrn_format.proofs.file.journal_stands_complete.Goals as goal

pub returns : goal.returns
returns c = journal-entire
