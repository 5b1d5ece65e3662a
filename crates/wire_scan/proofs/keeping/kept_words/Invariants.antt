use Rattle.std.proofs.Common.{◌≡◌, length, map, take}
use Rattle.wire_scan.specs.Keeping.{KeepsEach}
use Rattle.wire_scan.proofs.keeping.kept_words.Given as goal

abbrev pub invariant-loop-slave : goal.invariant-loop-slave
invariant-loop-slave l = record {
  sizes : map length l.kept.items ≡ map length (take l.slave l.slaves);
  each : KeepsEach (take l.slave l.slaves) (take l.slave l.images) l.kept.items;
}
