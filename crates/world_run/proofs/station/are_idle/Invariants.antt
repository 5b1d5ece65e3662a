use Rattle.std.proofs.Common.{◌≡◌, take}
use Rattle.std.specs.List.{AllByRecursion}
use Rattle.world_run.specs.declared.station.Asked.{Asked}
use Rattle.world_run.specs.declared.station.Asked.TheVariants.{Nothing}
use Rattle.world_run.proofs.station.are_idle.Given as goal

abbrev pub invariant-loop-a : goal.invariant-loop-a
invariant-loop-a l = AllByRecursion (λ (a : Asked). a ≡ Nothing) (take l.a-index l.asked)
