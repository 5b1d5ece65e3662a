use Rattle.std.specs.Prelude.{◌≡◌}
use Rattle.wire_words.proofs.sizing.end_between.Given as goal

abbrev pub invariant-loop-block : goal.invariant-loop-block
invariant-loop-block g l = l.wire.stations ≡ l.fn.wire.stations
