use Rattle.std.specs.Prelude.{◌≡◌, length}
use Rattle.wire_bringup.specs.States.{AllLooked}
use Rattle.wire_bringup.proofs.looking.look_at_all.Given as goal

abbrev pub invariant-loop-slave : goal.invariant-loop-slave
invariant-loop-slave g l = record {
  count : length l.states ≡ 64;
  same : l.wire.stations ≡ l.fn.wire.stations;
  lent : l.wire.is_lent ≡ l.fn.wire.is_lent;
  looked : AllLooked g.W.Wire.gives l.fn.wire.stations.by_slave l.fn.wire.is_lent l.slave l.states;
}
