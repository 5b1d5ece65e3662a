use Rattle.std.proofs.Common.{take}
use Rattle.std.specs.List.{AllByRecursion}
use Rattle.station_files.specs.Locations.{Meets, place_of}
use Rattle.station_files.proofs.same_files.first_met.Given as goal

abbrev pub invariant-loop-at : goal.invariant-loop-at
invariant-loop-at l = AllByRecursion (λ other. ¬ Meets (place_of l.one) (place_of other)) (take l.at l.others)
