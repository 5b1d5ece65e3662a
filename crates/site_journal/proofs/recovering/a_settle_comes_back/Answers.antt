use Rattle.site_journal.proofs.WordLaws.{settle-done}
use Rattle.site_journal.proofs.recovering.a_settle_comes_back.Goals as goal

pub returns : goal.returns
returns c = λ frame book state took machine i taken outcome up recovering within is of. settle-done frame book state took machine i up recovering within taken outcome is of
