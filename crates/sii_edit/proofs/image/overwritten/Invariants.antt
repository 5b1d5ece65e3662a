use Rattle.std.proofs.Common.{◌≡◌, ◌++◌, take, drop}
use Rattle.sii_edit.proofs.image.overwritten.Given as goal

abbrev pub invariant-loop-at : goal.invariant-loop-at
invariant-loop-at l = l.words ≡ take l.at l.front ++ drop l.at l.initial.words
