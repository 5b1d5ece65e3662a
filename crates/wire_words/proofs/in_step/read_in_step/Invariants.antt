use Rattle.std.specs.Prelude.{◌≡◌}
use Rattle.std.specs.List.{All}
use Rattle.wire_words.specs.Reading.{IsUnderWay, AllKept}
use Rattle.wire_words.proofs.in_step.read_in_step.Given as goal

abbrev pub invariant-loop-frame : goal.invariant-loop-frame
invariant-loop-frame g l = record {
  same : l.wire.stations ≡ l.fn.wire.stations;
  lent : l.wire.is_lent ≡ l.fn.wire.is_lent;
  reported : All (IsUnderWay g.W.Wire.gives) l.readers;
  kept : AllKept g.W.Wire.gives l.ahead;
}
