use Rattle.std.proofs.Common.{◌≡◌, ◌∷◌, arith}
use Rattle.std.specs.Vec.Iter.{into_iter_items}
use Rattle.script_session.proofs.AskLaws.{received-more, in-order-more}
use Rattle.station_threads.proofs.Zips.{gone-over}
use Rattle.script_session.proofs.submitting.receive_all.Goals as goal

pub loop-ticket-preserved : goal.loop-ticket-preserved
loop-ticket-preserved g c =
    let at = c.loop-ticket in
    let ticket = c.in-Some.ticket in
    let steps : into_iter_items at.ticket-iterator ≡ ticket ∷ into_iter_items c.next.new.self = c.in-Some.ensures.steps.0 in (
      gone-over at.yielded ticket (into_iter_items at.ticket-iterator) (into_iter_items c.next.new.self) (into_iter_items c.into_iter-ticket-iterator.result) steps at.invariant.0,
      received-more at.receipts.items at.yielded c.in_ok-receipt.receipt ticket c.push.new.self.items at.invariant.1 c.in_ok-receipt.ensures.same c.in_ok-push.ensures.items,
      rw c.in_ok-push.ensures.items (in-order-more at.receipts.items c.in_ok-receipt.receipt at.invariant.2 (omega (arith, at.receipts.ok.0, c.len-in-loop-ticket.ensures, c.in_ok-receipt.ensures.number))),
    )
