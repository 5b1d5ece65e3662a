use Rattle.std.proofs.Common.{take}
use Rattle.std.specs.List.{AllByRecursion}
use Rattle.esc_model.specs.WordAccess.{IsIdle}
use Rattle.world_run.proofs.line.WorldLine.are_idle.Given as goal

abbrev pub invariant-loop-slave : goal.invariant-loop-slave
invariant-loop-slave l = AllByRecursion IsIdle (take l.slave l.self.halves)
