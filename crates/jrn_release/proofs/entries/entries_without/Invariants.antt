use Rattle.std.proofs.Common.{◌≡◌, map, take}
use Rattle.jrn_release.specs.Without.{entry_without}
use Rattle.jrn_release.proofs.entries.entries_without.Given as goal

abbrev pub invariant-loop-entry : goal.invariant-loop-entry
invariant-loop-entry l = l.kept.items ≡ map (entry_without l.slave) (take l.entry-index l.entries)
