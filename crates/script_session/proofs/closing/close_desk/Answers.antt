use Rattle.script_session.proofs.DeskLaws.{closes-now, stops-now}
use Rattle.script_session.proofs.closing.close_desk.Goals as goal

pub returns-in-Ok-clause-closes : goal.returns-in-Ok-clause-closes
returns-in-Ok-clause-closes g c =
    let closed = c.in-Ok.ensures in
    let reported = c.tell_closed.result in
    closes-now g.T.Tickets.opened c.in-Ok.closed.book.calls c.args.shares.items c.args.receipts.items c.args.ends c.in-Ok.closed.ends reported.1 reported.2 c.tell_closed.ensures.answered closed.served closed.handed_in closed.contents closed.left closed.ends
    c.tell_closed.ensures.ends.1

pub returns-in-Err-clause-closes : goal.returns-in-Err-clause-closes
returns-in-Err-clause-closes g c =
    let left = c.in-Err.ensures in
    let reported = c.tell_open.result in
    stops-now g.T.Tickets.opened c.in-Err.left.book.calls c.args.shares.items c.args.receipts.items c.args.ends c.in-Err.left.ends c.in-Err.left.fault reported.1 reported.2 c.tell_open.ensures.answered left.kept left.handed_back.2 c.tell_open.ensures.ends.1
    c.tell_open.ensures.fault
