use Rattle.std.specs.Prelude.{◌≡◌, slice_index}
use Rattle.wire_words.specs.Reading.{IsUnderWay}
use Rattle.wire_words.proofs.reading.read_in_tries.Given as goal

abbrev pub invariant-loop-frame : goal.invariant-loop-frame
invariant-loop-frame g l = record {
  same : l.wire.stations ≡ l.fn.wire.stations;
  reported : IsUnderWay g.W.Wire.gives l.reader;
  station : l.reader.station ≡ slice_index l.fn.wire.stations.by_slave l.slave;
  word : l.reader.word ≡ l.word;
}
