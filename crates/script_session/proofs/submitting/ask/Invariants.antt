use Rattle.std.proofs.Common.{◌≡◌}
use Rattle.script_session.proofs.submitting.ask.Given as goal

abbrev pub invariant-loop-try : goal.invariant-loop-try
invariant-loop-try g l = (l.share.tickets ≡ l.fn.share.tickets) × (l.asked ≡ l.fn.command)
