use Rattle.site_journal.proofs.EndLaws.{end-words, end-plan}
use Rattle.site_journal.proofs.ending.at_the_end_the_slaves_hold_the_base.Goals as goal

pub returns : goal.returns
returns c = record { words = end-words; plan = end-plan }
