use Rattle.slave_match.specs.Reason.{HasWords}
use Rattle.slave_match.proofs.Reasons.{NoOtherBelow}
use Rattle.slave_match.proofs.reason.place_of_words.Given as goal

abbrev pub invariant-loop-place : goal.invariant-loop-place
invariant-loop-place l = NoOtherBelow (HasWords l.words) l.slave l.images l.place
