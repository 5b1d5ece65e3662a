use Rattle.slave_match.specs.Reason.{HasIdentity}
use Rattle.slave_match.proofs.Reasons.{NoOtherBelow}
use Rattle.slave_match.proofs.reason.place_of_identity.Given as goal

abbrev pub invariant-loop-place : goal.invariant-loop-place
invariant-loop-place l = NoOtherBelow (HasIdentity l.words) l.slave l.images l.place
