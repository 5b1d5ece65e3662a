use Rattle.site_journal.proofs.EmptyLaws.{zeros_halved}
use Rattle.site_journal.proofs.laws.halves_of_zeros_are_closed.Goals as goal

pub returns : goal.returns
returns c = zeros_halved
