use Rattle.std.proofs.Common.{◌≡◌, take}
use Rattle.station_jobs.proofs.cycle_notes.are_same_runs.Given as goal

abbrev pub invariant-loop-i : goal.invariant-loop-i
invariant-loop-i l = take l.i l.ones ≡ take l.i l.others
