use Rattle.std.specs.Prelude.{◌≡◌, ◌*◌, slice_index, IfSome}
use Rattle.wire_words.specs.Words.{PairCame}
use Rattle.wire_bringup.specs.Lines.{PairsCame}
use Rattle.wire_bringup.proofs.bringing_up.read_words.Given as goal

abbrev pub invariant-loop-place : goal.invariant-loop-place
invariant-loop-place g l = record {
  same : l.wire.stations ≡ l.fn.wire.stations;
  read : PairsCame g.W.Wire.gives (slice_index l.fn.wire.stations.by_slave l.slave) l.place l.bytes.items;
  next : IfSome l.next (PairCame g.W.Wire.gives (slice_index l.fn.wire.stations.by_slave l.slave) (2 * l.place));
}
