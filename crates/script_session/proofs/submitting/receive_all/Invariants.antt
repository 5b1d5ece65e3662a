use Rattle.std.proofs.Common.{◌≡◌, ◌++◌}
use Rattle.std.specs.Vec.Iter.{into_iter_items}
use Rattle.script_session.specs.Asking.{AreInOrder}
use Rattle.script_session.proofs.submitting.receive_all.Given as goal

abbrev pub invariant-loop-ticket : goal.invariant-loop-ticket
invariant-loop-ticket g l = (l.yielded ++ into_iter_items l.ticket-iterator ≡ into_iter_items l.initial.ticket-iterator) × (l.receipts.items ≡ l.yielded) × AreInOrder l.receipts.items
