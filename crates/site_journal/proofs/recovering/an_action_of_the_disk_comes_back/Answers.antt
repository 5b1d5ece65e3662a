use Rattle.site_journal.proofs.DiskLaws.{action-done, action-fault}
use Rattle.site_journal.proofs.recovering.an_action_of_the_disk_comes_back.Goals as goal

pub returns : goal.returns
returns c = record { well = action-done; fault = action-fault }
