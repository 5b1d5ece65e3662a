use Rattle.std.proofs.Common.{◌≡◌}
use Rattle.station_files.proofs.store.prepare_files.Given as goal

abbrev pub invariant-loop-slave : goal.invariant-loop-slave
invariant-loop-slave g l = g.S.Store.files l.store ≡ g.S.Store.files l.initial.store
