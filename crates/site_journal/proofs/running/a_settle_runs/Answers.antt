use Rattle.site_journal.proofs.WordRuns.{settle-runs}
use Rattle.site_journal.proofs.running.a_settle_runs.Goals as goal

pub returns : goal.returns
returns c = λ frame book took machine old new i taken result up within is settles. settle-runs frame book took machine old i up within taken is result new settles
