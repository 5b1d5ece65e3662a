use Rattle.std.proofs.Common.{◌≢◌, ℕ, ◌<◌, slice_index}
use Rattle.wire_frames.proofs.stations.Stations.earlier.Given as goal

abbrev pub invariant-loop-other : goal.invariant-loop-other
invariant-loop-other l = (j : ℕ) → j < l.other → slice_index l.self.by_slave j ≢ slice_index l.self.by_slave l.slave
