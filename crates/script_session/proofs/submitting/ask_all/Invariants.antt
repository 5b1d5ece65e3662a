use Rattle.std.proofs.Common.{◌≡◌, ◌++◌}
use Rattle.std.specs.Vec.Iter.{into_iter_items}
use Rattle.script_session.specs.Asking.{AsksAll}
use Rattle.script_session.proofs.submitting.ask_all.Given as goal

abbrev pub invariant-loop-command : goal.invariant-loop-command
invariant-loop-command g l = (l.yielded ++ into_iter_items l.command-iterator ≡ into_iter_items l.initial.command-iterator) × AsksAll l.yielded l.fn.answered l.answered l.fn.share l.share l.tickets.items
