use Rattle.site_journal.proofs.GoLaws.{keeps-still}
use Rattle.site_journal.proofs.going.what_adds_nothing_keeps.Goals as goal

pub returns : goal.returns
returns c = keeps-still
