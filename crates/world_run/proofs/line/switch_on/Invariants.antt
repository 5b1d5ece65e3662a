use Rattle.world_run.specs.Sides.{IsPoweredUp}
use Rattle.world_run.proofs.line.switch_on.Given as goal

abbrev pub invariant-loop-contents : goal.invariant-loop-contents
invariant-loop-contents l = IsPoweredUp l.yielded l.halves.items
