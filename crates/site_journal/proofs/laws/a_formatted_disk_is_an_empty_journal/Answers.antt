use Rattle.site_journal.proofs.EmptyLaws.{formatted_is_empty}
use Rattle.site_journal.proofs.laws.a_formatted_disk_is_an_empty_journal.Goals as goal

pub returns : goal.returns
returns c = formatted_is_empty
