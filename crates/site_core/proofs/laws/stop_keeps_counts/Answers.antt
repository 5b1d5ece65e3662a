use Rattle.site_core.proofs.Counts.{counts-left, counts-stopped}
use Rattle.site_core.proofs.laws.stop_keeps_counts.Goals as goal

pub returns-clause-left : goal.returns-clause-left
returns-clause-left c = λ state pair leaves. counts-left state.halves pair.words leaves.words

pub returns-clause-state : goal.returns-clause-state
returns-clause-state c = λ old new stopped. counts-stopped old.halves new.halves stopped.halves
