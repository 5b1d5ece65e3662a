use Rattle.std.specs.Prelude.{◌≡◌}
use Rattle.wire_words.proofs.sizing.is_rolled.Given as goal

abbrev pub invariant-loop-pair : goal.invariant-loop-pair
invariant-loop-pair g l = l.wire.stations ≡ l.fn.wire.stations
