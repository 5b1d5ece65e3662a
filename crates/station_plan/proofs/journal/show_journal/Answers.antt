use Rattle.station_plan.proofs.Plans.{on_ok_also}
use Rattle.station_plan.specs.Journal.{ListsJournal, ListsSite}
use Rattle.station_plan.proofs.journal.show_journal.Goals as goal

pub returns-in-Ok-clause-lists : goal.returns-in-Ok-clause-lists
returns-in-Ok-clause-lists g c =
    on_ok_also c.list_site.result (ListsSite c.in-Ok.session.site) (ListsJournal (g.S.Store.files c.args.store.now) c.args.name.now)
    (λ lists. record { line = c.in-Ok.session.line; site = c.in-Ok.session.site; loaded = c.in-Ok.ensures.loaded; lists = lists }) c.list_site.ensures
