use Rattle.std.specs.Prelude.{◌≡◌, length}
use Rattle.std.specs.List.{All}
use Rattle.wire_words.specs.Reading.{NothingReported}
use Rattle.wire_bringup.proofs.bringing_up.readers_of.Given as goal

abbrev pub invariant-loop-slave : goal.invariant-loop-slave
invariant-loop-slave l = record { count : length l.readers ≡ 64; reported : All NothingReported l.readers }
