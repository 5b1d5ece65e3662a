use Rattle.std.specs.Prelude.{◌≡◌}
use Rattle.wire_words.proofs.telling.put.Given as goal

abbrev pub invariant-loop-try : goal.invariant-loop-try
invariant-loop-try g l = l.wire.stations ≡ l.fn.wire.stations
