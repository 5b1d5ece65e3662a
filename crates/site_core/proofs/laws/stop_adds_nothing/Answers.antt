use Rattle.site_core.proofs.Moments.{Leaves-stopped}
use Rattle.site_core.proofs.Counts.{words-idle}
use Rattle.site_core.proofs.laws.stop_adds_nothing.Goals as goal

pub returns-clause-nothing : goal.returns-clause-nothing
returns-clause-nothing c = Leaves-stopped

pub returns-clause-idle : goal.returns-clause-idle
returns-clause-idle c = λ state pair idle leaves. words-idle state.halves pair.words idle leaves.words
