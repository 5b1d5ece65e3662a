use Rattle.wire_session.proofs.RunEnds.{runs}
use Rattle.wire_session.proofs.running.run_script.Goals as goal

pub returns-in-Ok : goal.returns-in-Ok
returns-in-Ok g c =
    runs _ c.run_found.result c.args.order.asked.mends g.S.Store.leads (g.S.Store.files c.args.store.now) (g.S.Store.files c.find_all.new.store) (g.S.Store.files c.run_found.new.store)
    c.args.order.named.line.now c.args.order.named.script.now c.in-Ok.given.found.line c.in-Ok.given.found.slaves.items
    c.in-Ok.given.found.journal.items c.in-Ok.given.commands.items c.in-Ok.ensures.found c.in-Ok.ensures.validated c.in-Ok.ensures.kept c.in-Ok.ensures.spelt c.in-Ok.ensures.separate
    c.find_all.ensures.same c.run_found.ensures.ends c.run_found.ensures.keeps
