use Rattle.std.proofs.Common.{◌≡◌, take}
use Rattle.sii_words.specs.Redo.{redone}
use Rattle.sii_words.proofs.redoing.redo.Given as goal

abbrev pub invariant-loop-run : goal.invariant-loop-run
invariant-loop-run l = l.plant ≡ redone l.initial.plant (take l.run-index l.runs)
