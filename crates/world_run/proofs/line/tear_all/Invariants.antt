use Rattle.world_run.proofs.SidesLaws.{TornSoFar}
use Rattle.world_run.proofs.line.tear_all.Given as goal

abbrev pub invariant-loop-slave : goal.invariant-loop-slave
invariant-loop-slave l = TornSoFar l.choice l.initial.halves l.halves l.slave
