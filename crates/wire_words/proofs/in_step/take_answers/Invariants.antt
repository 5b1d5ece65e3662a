use Rattle.std.specs.Prelude.{◌≡◌, length}
use Rattle.std.specs.List.{All}
use Rattle.wire_words.specs.Reading.{IsUnderWay, AllKept}
use Rattle.wire_words.proofs.in_step.take_answers.Given as goal

abbrev pub invariant-loop-slave : goal.invariant-loop-slave
invariant-loop-slave g l = record {
  count : length l.readers ≡ 64;
  reported : All (IsUnderWay g.W.Wire.gives) l.readers;
  kept : AllKept g.W.Wire.gives l.ahead;
}
