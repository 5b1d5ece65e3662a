use Rattle.std.proofs.Common.{inr}
use Rattle.std.specs.Prelude.{⊤}
use Rattle.station_line.proofs.Formatted.{at_ok, formats, unprinted}
use Rattle.station_line.proofs.init.init_line.Goals as goal

pub returns-in-Ok-clause-formatted : goal.returns-in-Ok-clause-formatted
returns-in-Ok-clause-formatted g c =
    let given = c.in_ok-given.given in
    at_ok c.print_formatted.result
    (formats ⊤ (g.S.Store.files c.args.store.now) (g.S.Store.files c.load_unformatted.new.store) (g.S.Store.files c.format_line.new.store) c.args.name.now given.line given.slaves.items
    c.in_ok-given.ensures.given c.load_unformatted.ensures.same c.format_line.ensures.others (λ done. rw c.deref.ensures.value at c.in-Ok.ensures.saved))

pub returns-in-Ok-clause-refused : goal.returns-in-Ok-clause-refused
returns-in-Ok-clause-refused g c =
    let given = c.in_ok-given.given in
    unprinted c.print_formatted.result (g.S.Store.files c.args.store.now) (g.S.Store.files c.format_line.new.store) g.S.Store.leads c.args.name.now
    (formats ⊥ (g.S.Store.files c.args.store.now) (g.S.Store.files c.load_unformatted.new.store) (g.S.Store.files c.format_line.new.store) c.args.name.now given.line given.slaves.items
    c.in_ok-given.ensures.given c.load_unformatted.ensures.same c.format_line.ensures.others (λ done. absurd done))
    c.print_formatted.ensures

pub returns-clause-refused : goal.returns-clause-refused
returns-clause-refused g c =
    let given = c.in_ok-given.given in
    inr (
      formats ⊥ (g.S.Store.files c.args.store.now) (g.S.Store.files c.load_unformatted.new.store) (g.S.Store.files c.format_line.new.store) c.args.name.now given.line given.slaves.items
          c.in_ok-given.ensures.given c.load_unformatted.ensures.same c.format_line.ensures.others (λ done. absurd done),
      c.in-Err.ensures.failed,
    )
