use Rattle.std.specs.Prelude.{◌≡◌, ◌<◌}
use Rattle.wire_frames.specs.Out.{IsGiven}
use Rattle.wire_frames.proofs.Out.{GoneOut}
use Rattle.wire_frames.proofs.numbered.NumberedWire.carried.Given as goal

abbrev pub invariant-loop-sending : goal.invariant-loop-sending
invariant-loop-sending g l = record {
  lent : l.self.is_lent ≡ l.fn.self.is_lent;
  same : l.self.stations ≡ l.fn.self.stations;
  number : l.self.number ≡ l.fn.self.number;
  out : GoneOut l.sending l.fn.numbered l.fn.self.out l.self.out;
  given : 0 < l.sending → IsGiven g.W.Wire.takes l.fn.numbered;
}
