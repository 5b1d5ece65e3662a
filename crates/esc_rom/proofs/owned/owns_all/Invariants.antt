use Rattle.std.proofs.Common.{ℕ, ◌<◌}
use Rattle.site_core.specs.Line.{Owns}
use Rattle.esc_rom.proofs.owned.owns_all.Given as goal

abbrev pub invariant-loop-slave : goal.invariant-loop-slave
invariant-loop-slave g l = (k : ℕ) → k < l.slave → Owns (g.S.Site.line l.fn.site) k
