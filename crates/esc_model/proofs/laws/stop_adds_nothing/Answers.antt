use Rattle.esc_model.proofs.Resting.{MayStop-leaves, MayLeave-idle}
use Rattle.esc_model.proofs.laws.stop_adds_nothing.Goals as goal

pub returns-clause-nothing : goal.returns-clause-nothing
returns-clause-nothing c = MayStop-leaves

pub returns-clause-idle : goal.returns-clause-idle
returns-clause-idle c = MayLeave-idle
