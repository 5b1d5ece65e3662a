use Rattle.std.specs.List.{All}
use Rattle.wire_words.specs.Reading.{KeptCame}
use Rattle.wire_words.proofs.ahead.nothing_ahead.Given as goal

abbrev pub invariant-loop-place : goal.invariant-loop-place
invariant-loop-place g l = All (KeptCame g.W.Wire.gives) l.pairs.items
