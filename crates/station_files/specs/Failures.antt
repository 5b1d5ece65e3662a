-- What has gone wrong in a subcommand.
use Rattle.std.specs.Prelude.{List, [], ◌∷◌, ◌++◌, length, nat_lt, if◌then◌else◌}
use Rattle.station_files.specs.declared.failures.Failures.{Failures}
use Rattle.station_files.specs.declared.faults.Failure.{Failure}

-- the failures, in the order in which they came
abbrev pub met_by : Failures → List Failure
met_by failures = failures.met.items

-- the failures with one more after them; of more than eight the last ones aren't kept
abbrev pub with_failure : List Failure → Failure → List Failure
with_failure met failure = if nat_lt (length met) 8 then met ++ failure ∷ [] else met
