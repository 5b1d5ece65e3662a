use Rattle.site_journal.proofs.DiskRuns.{disk-runs}
use Rattle.site_journal.proofs.running.an_action_of_the_disk_runs.Goals as goal

pub returns : goal.returns
returns c = λ frame book took machine old new result up call. disk-runs frame book took machine old up result new call
