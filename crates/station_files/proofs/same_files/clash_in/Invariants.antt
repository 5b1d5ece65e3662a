use Rattle.std.proofs.Common.{◌-◌, drop}
use Rattle.station_files.specs.Locations.{NoneMeet}
use Rattle.station_files.proofs.same_files.clash_in.Given as goal

abbrev pub invariant-loop-one : goal.invariant-loop-one
invariant-loop-one l = NoneMeet (l.written - l.one) (drop l.one l.found) → NoneMeet l.written l.found
