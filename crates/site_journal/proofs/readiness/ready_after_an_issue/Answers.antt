use Rattle.site_journal.proofs.ReadyLaws.{issue-ready}
use Rattle.site_journal.proofs.readiness.ready_after_an_issue.Goals as goal

pub returns : goal.returns
returns c = λ book old new i word value result ready within is issues. issue-ready book old new ready i within word value is result issues
