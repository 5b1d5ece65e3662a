use Rattle.std.proofs.Common.{◌≡◌, ℕ, ◌*◌, ◌<◌, [], length, slice_index, slice_index_or, IfSome}
use Rattle.wire_words.specs.Words.{PairCame}
use Rattle.wire_words.specs.Reading.{AllKept}
use Rattle.wire_words.proofs.sizing.read_block.Given as goal

abbrev pub invariant-loop-pair : goal.invariant-loop-pair
invariant-loop-pair g l = record {
  count : length l.block ≡ 32;
  same : l.wire.stations ≡ l.fn.wire.stations;
  read : AllKept g.W.Wire.gives l.ahead → (k : ℕ) → k < l.pair
      → PairCame g.W.Wire.gives (slice_index l.fn.wire.stations.by_slave l.slave) (2 * k) (slice_index_or l.block k []);
  next : AllKept g.W.Wire.gives l.ahead
      → IfSome l.next (PairCame g.W.Wire.gives (slice_index l.fn.wire.stations.by_slave l.slave) (2 * l.pair));
}
