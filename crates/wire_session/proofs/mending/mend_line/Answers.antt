use Rattle.wire_session.proofs.RunEnds.{mends}
use Rattle.wire_session.proofs.mending.mend_line.Goals as goal

pub returns-in-Ok : goal.returns-in-Ok
returns-in-Ok g c =
    mends _ c.run_found.result c.args.asked.mends g.S.Store.leads (g.S.Store.files c.args.store.now) (g.S.Store.files c.find_line.new.store) (g.S.Store.files c.run_found.new.store)
    c.args.name.now c.in-Ok.found.line c.in-Ok.found.slaves.items c.in-Ok.found.images.items c.in-Ok.found.journal.items c.in-Ok.found.mends.items c.in-Ok.ensures.found c.in-Ok.ensures.validated
    c.in-Ok.ensures.kept c.in-Ok.ensures.mends c.in-Ok.ensures.mended c.in-Ok.ensures.separate c.find_line.ensures.same (rw c.replace-commands.ensures.value at c.run_found.ensures.ends) (rw c.replace-commands.ensures.value at c.run_found.ensures.keeps)
