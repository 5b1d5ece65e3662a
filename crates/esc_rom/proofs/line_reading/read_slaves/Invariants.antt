use Rattle.std.proofs.Common.{◌≡◌}
use Rattle.esc_rom.proofs.LineLaws.{FirstRead}
use Rattle.esc_rom.proofs.SentLaws.{FirstSo}
use Rattle.esc_rom.proofs.line_reading.read_slaves.Given as goal

abbrev pub invariant-loop-slave : goal.invariant-loop-slave
invariant-loop-slave g l = record {
  first : FirstRead l.slave l.plant.items (g.S.Site.line l.fn.site).sizes (g.S.Site.seen l.fn.site) (g.S.Site.seen l.site);
  frames : FirstSo (g.S.Site.line l.fn.site).sizes l.slave (g.S.Site.seen l.fn.site) (g.S.Site.seen l.site);
  line : g.S.Site.line l.site ≡ g.S.Site.line l.fn.site;
}
