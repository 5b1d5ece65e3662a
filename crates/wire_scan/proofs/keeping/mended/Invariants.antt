use Rattle.std.proofs.Common.{◌≡◌, length}
use Rattle.wire_scan.specs.Keeping.{MendsBelow}
use Rattle.wire_scan.proofs.keeping.mended.Given as goal

abbrev pub invariant-loop-slave : goal.invariant-loop-slave
invariant-loop-slave l = record {
  images : length l.images.items ≡ l.slave;
  below : MendsBelow l.slave l.mends l.slaves l.found l.kept l.images.items l.edits.items;
}
