use Rattle.std.proofs.Common.{◌≡◌, drop}
use Rattle.ecat_frame.proofs.frame.Frame.datagrams_from.Given as goal

abbrev pub invariant-loop : goal.invariant-loop
invariant-loop l = l.datagrams ≡ drop l.counter l.self
