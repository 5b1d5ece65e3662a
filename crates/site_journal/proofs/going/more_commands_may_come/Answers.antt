use Rattle.site_journal.proofs.GoLaws.{keeps-more}
use Rattle.site_journal.proofs.going.more_commands_may_come.Goals as goal

pub returns : goal.returns
returns c = keeps-more
