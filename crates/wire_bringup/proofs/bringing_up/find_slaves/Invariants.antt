use Rattle.std.specs.Prelude.{◌≡◌, length}
use Rattle.wire_bringup.specs.Lines.{AllCame}
use Rattle.wire_bringup.proofs.bringing_up.find_slaves.Given as goal

abbrev pub invariant-loop-slave : goal.invariant-loop-slave
invariant-loop-slave g l = record {
  count : length l.found.items ≡ l.slave;
  same : l.wire.stations ≡ l.fn.wire.stations;
  words : AllCame g.W.Wire.gives l.fn.wire.stations.by_slave 0 l.found.items;
}
