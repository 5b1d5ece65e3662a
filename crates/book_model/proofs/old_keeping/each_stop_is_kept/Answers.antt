use Rattle.book_model.proofs.FormLaws.{journal-kept}
use Rattle.book_model.proofs.old_keeping.each_stop_is_kept.Goals as goal

pub returns : goal.returns
returns c = journal-kept
