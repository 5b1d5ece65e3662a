use Rattle.std.proofs.Common.{◌≡◌, length}
use Rattle.std.specs.Prelude.{IsTrue, false}
use Rattle.station_jobs.proofs.CycleLaws.{Runs}
use Rattle.station_jobs.proofs.CyclesLaws.{SoFar}
use Rattle.station_jobs.proofs.cycling.cycle_loop.Given as goal

abbrev pub invariant-loop : goal.invariant-loop
invariant-loop g l =
    Runs (g.D.Dispatch.log l.dispatch) (g.S.Site.seen l.start.value) (g.S.Site.seen l.site) × (g.S.Site.line l.site ≡ g.S.Site.line l.start.value)
    × IsTrue (g.S.Site.line l.start.value).has_process
    × SoFar (length (g.S.Site.line l.start.value).sizes) (g.D.Dispatch.has_job l.initial.dispatch ≡ false) (g.D.Dispatch.are_reported l.initial.dispatch)
    (g.D.Dispatch.are_reported l.dispatch) (g.D.Dispatch.log l.dispatch) (g.S.Site.seen l.start.value) l.last (g.S.Site.seen l.site)
    × (g.D.Dispatch.has_ended l.dispatch → g.D.Dispatch.has_ended l.initial.dispatch)
    × (g.D.Dispatch.has_job l.initial.dispatch ≡ false → g.D.Dispatch.has_job l.dispatch ≡ false)
