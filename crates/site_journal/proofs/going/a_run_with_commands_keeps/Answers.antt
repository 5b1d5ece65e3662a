use Rattle.site_journal.proofs.GoLaws.{keeps-all_with}
use Rattle.site_journal.proofs.going.a_run_with_commands_keeps.Goals as goal

pub returns : goal.returns
returns c = keeps-all_with
