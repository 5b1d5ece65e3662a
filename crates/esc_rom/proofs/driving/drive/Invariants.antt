use Rattle.std.proofs.Common.{◌≡◌}
use Rattle.esc_rom.proofs.Driven.{WentSo}
use Rattle.esc_rom.proofs.driving.drive.Given as goal

abbrev pub invariant-loop-turn : goal.invariant-loop-turn
invariant-loop-turn g l = record {
  so : WentSo l.slave l.fn.first l._turn (g.S.Site.seen l.fn.site) l.step (g.S.Site.seen l.site);
  line : g.S.Site.line l.site ≡ g.S.Site.line l.fn.site;
}
