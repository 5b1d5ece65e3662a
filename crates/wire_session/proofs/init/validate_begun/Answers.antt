use Rattle.wire_session.proofs.Recovering.{begun_by}
use Rattle.wire_session.proofs.init.validate_begun.Goals as goal

pub returns-clause-begun : goal.returns-clause-begun
returns-clause-begun g c =
    begun_by (g.S.Store.files c.args.store.now) (g.S.Store.files c.load_line.new.store) (g.S.Store.files c.load_slaves.new.store) c.args.name.now c.in_ok-line.line c.in_ok-slaves.slaves.items c.in_ok-journal.journal.items
    c.in_ok-line.ensures.line c.load_line.ensures.same c.in_ok-slaves.ensures.slaves c.load_slaves.ensures.same (rw c.as_str.ensures.value at c.in_ok-journal.ensures.bytes)
    (rw (c.deref.ensures.value, c.deref-2.ensures.value) at c.in_ok-require_empty.ensures)
