use Rattle.std.proofs.Common.{◌≡◌}
use Rattle.site_core.specs.Line.{Owns}
use Rattle.book_model.specs.declared.next.RomNext.{RomNext}
use Rattle.station_jobs.specs.Jobs.{DoneInTurn}
use Rattle.station_jobs.specs.Working.{CallsSlave, IsCall}
use Rattle.station_jobs.proofs.working.work.Given as goal

abbrev pub invariant-loop : goal.invariant-loop
invariant-loop g l =
    DoneInTurn (CallsSlave l.slave) (g.D.Dispatch.log l.dispatch) (g.S.Site.seen l.start.value) (g.S.Site.seen l.site)
    × ((job : RomNext) → g.D.Dispatch.may_hand l.dispatch job → IsCall job)
    × (g.S.Site.line l.site ≡ g.S.Site.line l.start.value) × Owns (g.S.Site.line l.start.value) l.slave
    × (g.D.Dispatch.has_ended l.dispatch → g.D.Dispatch.has_ended l.initial.dispatch)
