use Rattle.std.proofs.Common.{◌≡◌, take}
use Rattle.jrn_release.specs.Without.{runs_without}
use Rattle.jrn_release.proofs.entries.runs_without.Given as goal

abbrev pub invariant-loop-run : goal.invariant-loop-run
invariant-loop-run l = l.kept.items ≡ runs_without l.slave (take l.run-index l.runs)
