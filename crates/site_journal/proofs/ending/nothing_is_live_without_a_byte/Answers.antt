use Rattle.site_journal.proofs.EndLaws.{without-byte}
use Rattle.site_journal.proofs.ending.nothing_is_live_without_a_byte.Goals as goal

pub returns : goal.returns
returns c = without-byte
