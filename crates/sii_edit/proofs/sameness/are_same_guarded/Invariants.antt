use Rattle.std.proofs.Common.{◌≡◌, take}
use Rattle.sii_edit.proofs.sameness.are_same_guarded.Given as goal

abbrev pub invariant-loop-i : goal.invariant-loop-i
invariant-loop-i l = take l.i l.ones ≡ take l.i l.others
