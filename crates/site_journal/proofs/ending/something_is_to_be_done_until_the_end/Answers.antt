use Rattle.site_journal.proofs.EndLaws.{nothing-left}
use Rattle.site_journal.proofs.ending.something_is_to_be_done_until_the_end.Goals as goal

pub returns : goal.returns
returns c = nothing-left
