use Rattle.kept_files.proofs.InJobs.{journal_is_cut}
use Rattle.kept_files.proofs.desk.a_cut_of_the_journal.Goals as goal

pub returns : goal.returns
returns g c = journal_is_cut _
