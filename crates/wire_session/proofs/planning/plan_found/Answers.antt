use Rattle.station_line.proofs.Opened.{old-by}
use Rattle.wire_session.proofs.planning.plan_found.Goals as goal

pub plan_line-requires-clause-old : goal.plan_line-requires-clause-old
plan_line-requires-clause-old g c =
    old-by c.args.found.slaves.items c.args.found.journal.items c.in_ok-site.site c.is_old-was_old.result
    (rw c.deref-2.ensures.value at c.in_ok-site.ensures) (rw c.deref.ensures.value at c.is_old-was_old.ensures)

pub returns-in-Ok : goal.returns-in-Ok
returns-in-Ok g c = record { site = c.in_ok-site.site; made = rw c.deref-2.ensures.value at c.in_ok-site.ensures; plans = c.in-Ok.ensures }
