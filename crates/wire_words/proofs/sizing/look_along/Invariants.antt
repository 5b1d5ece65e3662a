use Rattle.std.specs.Prelude.{◌≡◌}
use Rattle.wire_words.proofs.sizing.look_along.Given as goal

abbrev pub invariant-loop-first : goal.invariant-loop-first
invariant-loop-first g l = l.wire.stations ≡ l.fn.wire.stations
