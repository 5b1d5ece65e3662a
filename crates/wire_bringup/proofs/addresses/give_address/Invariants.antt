use Rattle.std.specs.Prelude.{◌≡◌, false}
use Rattle.wire_bringup.proofs.addresses.give_address.Given as goal

abbrev pub invariant-loop-try : goal.invariant-loop-try
invariant-loop-try g l = l.wire.is_lent ≡ false
