use Rattle.std.proofs.Common.{◌≡◌}
use Rattle.std.specs.Prelude.{IsTrue}
use Rattle.book_model.specs.declared.next.DiskNext.{DiskNext}
use Rattle.station_jobs.specs.Jobs.{DoneInTurn}
use Rattle.station_jobs.specs.Flushing.{CanBegin, DoesAction}
use Rattle.station_jobs.proofs.flushing.flush.Given as goal

abbrev pub invariant-loop : goal.invariant-loop
invariant-loop g l =
    DoneInTurn DoesAction (g.D.Dispatch.log l.dispatch) (g.S.Site.seen l.start.value) (g.S.Site.seen l.site)
    × ((action : DiskNext) → g.D.Dispatch.may_hand l.dispatch action → CanBegin action (g.S.Site.seen l.site).state.disk)
    × (g.S.Site.line l.site ≡ g.S.Site.line l.start.value) × IsTrue (g.S.Site.line l.start.value).has_disk
    × (g.D.Dispatch.has_ended l.dispatch → g.D.Dispatch.has_ended l.initial.dispatch)
