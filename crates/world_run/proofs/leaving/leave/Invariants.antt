use Rattle.std.proofs.Common.{take}
use Rattle.world_run.specs.Left.{HoldsLeft}
use Rattle.world_run.proofs.leaving.leave.Given as goal

abbrev pub invariant-loop-left : goal.invariant-loop-left
invariant-loop-left l = HoldsLeft l.ranges (take l.left-index l.choice) l.initial.bytes l.bytes
