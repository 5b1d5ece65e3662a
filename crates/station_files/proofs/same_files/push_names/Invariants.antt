use Rattle.std.proofs.Common.{◌≡◌, ◌++◌, take}
use Rattle.station_files.specs.FileNames.{spelt}
use Rattle.station_files.proofs.same_files.push_names.Given as goal

abbrev pub invariant-loop-other : goal.invariant-loop-other
invariant-loop-other l = spelt l.names.items ≡ spelt l.initial.names.items ++ spelt (take l.other-index l.others)
