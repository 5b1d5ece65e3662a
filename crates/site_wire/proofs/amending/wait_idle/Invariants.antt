use Rattle.site_wire.specs.Following.{Polls}
use Rattle.std.proofs.Common.{None}
use Rattle.site_wire.proofs.amending.wait_idle.Given as goal

abbrev pub invariant-loop-poll : goal.invariant-loop-poll
invariant-loop-poll g l = Polls l.slave l.initial.line.log.all l.line.log.all None
