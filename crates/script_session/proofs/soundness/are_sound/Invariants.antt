use Rattle.std.proofs.Common.{take}
use Rattle.std.specs.Prelude.{IsTrue}
use Rattle.std.specs.List.{AllByRecursion}
use Rattle.script_session.proofs.soundness.are_sound.Given as goal

abbrev pub invariant-loop-place : goal.invariant-loop-place
invariant-loop-place g l = AllByRecursion (λ part. IsTrue part.is_sound) (take l.place l.parts)
