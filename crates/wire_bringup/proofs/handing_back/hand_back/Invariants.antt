use Rattle.std.specs.Prelude.{◌≡◌, length}
use Rattle.wire_bringup.specs.Handing.{AllHanded}
use Rattle.wire_bringup.proofs.handing_back.hand_back.Given as goal

abbrev pub invariant-loop-slave : goal.invariant-loop-slave
invariant-loop-slave g l = record {
  count : length l.handed ≡ 64;
  same : l.wire.stations ≡ l.fn.wire.stations;
  handed : AllHanded g.W.Wire.gives l.fn.wire.stations.by_slave l.slave l.states l.handed;
}
