use Rattle.wire_frames.specs.Sending.{AreSeparate}
use Rattle.wire_frames.proofs.stations.Stations.validate.Given as goal

abbrev pub invariant-loop-slave : goal.invariant-loop-slave
invariant-loop-slave l = AreSeparate l.self.by_slave l.slave
