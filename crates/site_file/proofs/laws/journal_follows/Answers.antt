use Rattle.site_file.proofs.Journals.{write_follows, write_may_hold_anything, failed_write_leaves_no_more, sync_follows, sync_leaves_no_more}
use Rattle.site_file.proofs.laws.journal_follows.Goals as goal

pub returns-clause-write : goal.returns-clause-write
returns-clause-write c = write_follows

pub returns-clause-in_a_write : goal.returns-clause-in_a_write
returns-clause-in_a_write c = write_may_hold_anything

pub returns-clause-failed_write : goal.returns-clause-failed_write
returns-clause-failed_write c = failed_write_leaves_no_more

pub returns-clause-sync : goal.returns-clause-sync
returns-clause-sync c = sync_follows

pub returns-clause-in_a_sync : goal.returns-clause-in_a_sync
returns-clause-in_a_sync c = sync_leaves_no_more
