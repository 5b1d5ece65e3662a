use Rattle.site_journal.proofs.OpenLaws.{little-found}
use Rattle.site_journal.proofs.starting.little_is_found.Goals as goal

pub returns : goal.returns
returns c = little-found
