use Rattle.esc_model.proofs.Resting.{MayRest-leaves, MayRest-twice}
use Rattle.esc_model.proofs.laws.rest_adds_nothing.Goals as goal

pub returns-clause-nothing : goal.returns-clause-nothing
returns-clause-nothing c = MayRest-leaves

pub returns-clause-once : goal.returns-clause-once
returns-clause-once c = MayRest-twice
