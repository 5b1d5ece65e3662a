use Rattle.std.specs.Prelude.{◌≡◌, length}
use Rattle.wire_bringup.proofs.bringing_up.take_all.Given as goal

abbrev pub invariant-loop-slave : goal.invariant-loop-slave
invariant-loop-slave g l = record { count : length l.hitches ≡ 64; same : l.wire.stations ≡ l.fn.wire.stations }
