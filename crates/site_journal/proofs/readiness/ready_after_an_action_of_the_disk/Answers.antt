use Rattle.site_journal.proofs.ReadyLaws.{disk-ready}
use Rattle.site_journal.proofs.readiness.ready_after_an_action_of_the_disk.Goals as goal

pub returns : goal.returns
returns c = λ book old new result ready call. disk-ready book old new ready result call
