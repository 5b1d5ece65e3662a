use Rattle.site_journal.proofs.WordRuns.{issue-runs}
use Rattle.site_journal.proofs.running.an_issue_runs.Goals as goal

pub returns : goal.returns
returns c = λ frame book took machine old new i word value result up within is issues. issue-runs frame book took machine old i up within word value is result new issues
