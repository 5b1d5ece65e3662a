use Rattle.std.specs.Prelude.{◌≡◌}
use Rattle.wire_bringup.specs.Handing.{IsWritten}
use Rattle.wire_bringup.proofs.handing_back.put_back.Given as goal

abbrev pub invariant-loop-try : goal.invariant-loop-try
invariant-loop-try g l = record {
  same : l.wire.stations ≡ l.fn.wire.stations;
  written : IsWritten g.W.Wire.gives l.fn.wire.stations.by_slave l.slave l.access l.handed;
}
