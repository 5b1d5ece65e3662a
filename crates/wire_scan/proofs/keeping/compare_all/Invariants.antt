use Rattle.std.proofs.Common.{◌≡◌, length}
use Rattle.wire_scan.specs.Keeping.{AreSeen}
use Rattle.wire_scan.proofs.keeping.compare_all.Given as goal

abbrev pub invariant-loop-slave : goal.invariant-loop-slave
invariant-loop-slave l = record {
  count : length l.seen.items ≡ l.slave;
  seen : AreSeen l.batches l.slaves l.images l.slave l.seen.items;
}
