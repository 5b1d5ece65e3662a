use Rattle.std.specs.Prelude.{◌≡◌}
use Rattle.wire_frames.proofs.numbered.NumberedWire.receive.Given as goal

abbrev pub invariant-loop-other : goal.invariant-loop-other
invariant-loop-other g l = record {
  lent : l.self.is_lent ≡ l.fn.self.is_lent;
  same : l.self.stations ≡ l.fn.self.stations;
  number : l.self.number ≡ l.fn.self.number;
  out : l.self.out ≡ l.fn.self.out;
}
