use Rattle.wire_scan.proofs.GivingUp.{first_after, given_pending, refused_after}
use Rattle.wire_scan.proofs.pending.list_found.Goals as goal

pub returns-in-Some-clause-given : goal.returns-in-Some-clause-given
returns-in-Some-clause-given g c =
    given_pending c.args.order.gives_up c.in-Some.slave c.give_up.result (g.S.Store.files c.args.store.now) (g.S.Store.files c.pending_words.new.store) (g.S.Store.files c.give_up.new.store)
    c.args.found.now.line c.args.found.now.slaves.items c.args.found.now.journal.items c.in_ok-pending.pending.items c.in-Some.is c.pending_words.ensures.same c.in_ok-pending.ensures.pending
    (rw c.deref.ensures.value at c.in_ok-require_pending-in-Some.ensures.some) c.give_up.ensures.given

pub returns-in-Some-clause-first : goal.returns-in-Some-clause-first
returns-in-Some-clause-first g c =
    first_after c.args.order.gives_up c.in-Some.slave (g.S.Store.files c.args.store.now) (g.S.Store.files c.pending_words.new.store) (g.S.Store.files c.give_up.new.store)
    c.args.found.now.line c.args.found.now.slaves.items c.in-Some.is c.pending_words.ensures.same c.give_up.ensures.first

pub returns-in-Some-clause-refused : goal.returns-in-Some-clause-refused
returns-in-Some-clause-refused g c =
    refused_after c.give_up.result (g.S.Store.files c.args.store.now) (g.S.Store.files c.pending_words.new.store) (g.S.Store.files c.give_up.new.store) c.pending_words.ensures.same c.give_up.ensures.refused
