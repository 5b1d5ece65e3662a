use Rattle.esc_rom.proofs.SizeLaws.{FirstSizes}
use Rattle.esc_rom.proofs.owned.line_sizes.Given as goal

abbrev pub invariant-loop-slave : goal.invariant-loop-slave
invariant-loop-slave g l = FirstSizes l.slave l.sizes.items (g.S.Site.line l.fn.site) (g.S.Site.seen l.fn.site)
