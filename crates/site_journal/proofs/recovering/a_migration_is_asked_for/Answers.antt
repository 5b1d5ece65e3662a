use Rattle.site_journal.proofs.DiskLaws.{asked-for}
use Rattle.site_journal.proofs.recovering.a_migration_is_asked_for.Goals as goal

pub returns : goal.returns
returns c = asked-for
