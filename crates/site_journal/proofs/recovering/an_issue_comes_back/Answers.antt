use Rattle.site_journal.proofs.WordLaws.{issue-done}
use Rattle.site_journal.proofs.recovering.an_issue_comes_back.Goals as goal

pub returns : goal.returns
returns c = λ frame book state took machine i word value outcome up recovering within is of. issue-done frame book state took machine i up recovering within word value outcome is of
