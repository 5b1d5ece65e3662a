use Rattle.std.proofs.Common.{take}
use Rattle.std.specs.List.{AllByRecursion}
use Rattle.site_core.specs.Disk.{IsOutside}
use Rattle.world_run.proofs.leaving.is_open.Given as goal

abbrev pub invariant-loop-range : goal.invariant-loop-range
invariant-loop-range l = AllByRecursion (IsOutside l.at) (take l.range-index l.ranges)
