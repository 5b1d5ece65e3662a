use Rattle.site_journal.proofs.ReadyLaws.{opened-ready}
use Rattle.site_journal.proofs.readiness.ready_once_opened.Goals as goal

pub returns : goal.returns
returns c = opened-ready
