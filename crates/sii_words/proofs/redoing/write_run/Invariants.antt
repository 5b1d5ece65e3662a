use Rattle.std.proofs.Common.{◌≡◌, [], ◌∷◌, take}
use Rattle.sii_words.specs.Redo.{redone}
use Rattle.sii_words.proofs.redoing.write_run.Given as goal

abbrev pub invariant-loop-place : goal.invariant-loop-place
invariant-loop-place l = l.plant ≡ redone l.initial.plant (record { slave = l.run.slave; first = l.run.first; words = take l.place l.run.words } ∷ [])
