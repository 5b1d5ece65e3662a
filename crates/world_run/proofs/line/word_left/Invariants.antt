use Rattle.std.proofs.Common.{◌≡◌, drop}
use Rattle.world_run.specs.Left.{word_left}
use Rattle.world_run.proofs.line.word_left.Given as goal

abbrev pub invariant-loop-left : goal.invariant-loop-left
invariant-loop-left l = word_left l.choice l.slave ≡ word_left (drop l.left-index l.choice) l.slave
