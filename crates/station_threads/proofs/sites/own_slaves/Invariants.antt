use Rattle.std.proofs.Common.{◌≡◌, ◌<◌, ℕ, Some}
use Rattle.std.specs.Prelude.{slice_get}
use Rattle.site_core.specs.Line.{Owns}
use Rattle.station_threads.proofs.sites.own_slaves.Given as goal

abbrev pub invariant-loop-slave : goal.invariant-loop-slave
invariant-loop-slave g l = (place : ℕ) (site : g.row.S.Denot) → place < l.slave → slice_get l.sites place ≡ Some site → Owns (g.S.Site.line site) place
