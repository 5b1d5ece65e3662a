use Rattle.site_journal.proofs.ReadyLaws.{settle-ready}
use Rattle.site_journal.proofs.readiness.ready_after_a_settle.Goals as goal

pub returns : goal.returns
returns c = λ book old new i taken result ready within is settles. settle-ready book old new ready i within taken is result settles
