use Rattle.std.specs.Prelude.{◌≡◌, false}
use Rattle.wire_bringup.proofs.addresses.give_addresses.Given as goal

abbrev pub invariant-loop-slave : goal.invariant-loop-slave
invariant-loop-slave g l = l.wire.is_lent ≡ false
