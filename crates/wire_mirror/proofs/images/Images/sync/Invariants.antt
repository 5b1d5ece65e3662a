use Rattle.wire_mirror.specs.Mirroring.{SyncsBelow}
use Rattle.wire_mirror.proofs.images.Images.sync.Given as goal

abbrev pub invariant-loop-slave : goal.invariant-loop-slave
invariant-loop-slave g l = SyncsBelow l.slave l.unsynced l.self.files.items l.initial.calls l.calls
