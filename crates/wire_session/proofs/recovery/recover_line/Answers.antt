use Rattle.wire_session.proofs.Recovering.{recovers}
use Rattle.wire_session.proofs.recovery.recover_line.Goals as goal

pub returns-in-Ok : goal.returns-in-Ok
returns-in-Ok g c =
    recovers _ c.recover_found.result c.args.asked.mends g.S.Store.leads (g.S.Store.files c.args.store.now) (g.S.Store.files c.find_line.new.store) (g.S.Store.files c.recover_found.new.store) c.args.name.now c.in-Ok.found.line c.in-Ok.found.slaves.items c.in-Ok.found.journal.items
    c.in-Ok.ensures.found c.in-Ok.ensures.validated c.in-Ok.ensures.kept c.in-Ok.ensures.separate c.find_line.ensures.same
    c.recover_found.ensures.ends c.recover_found.ensures.keeps
