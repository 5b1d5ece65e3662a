use Rattle.std.proofs.Common.{◌≡◌, ◌+◌, ◌*◌, length}
use Rattle.esc_rom.specs.Runs.{Ran}
use Rattle.esc_rom.proofs.AllWords.{Filled}
use Rattle.esc_rom.proofs.SentLaws.{FillsSo}
use Rattle.esc_rom.proofs.reading.wait_and_fill.Given as goal

abbrev pub invariant-loop-pair : goal.invariant-loop-pair
invariant-loop-pair g l = record {
  ran : Ran (Filled l.slave l.words (2 * l.pair)) (g.S.Site.seen l.fn.site) l.slave (10000 + 30006 * l.pair) (g.S.Site.seen l.site);
  length : length l.words ≡ length l.fn.words;
  frames : FillsSo l.slave l.pair (g.S.Site.seen l.fn.site) (g.S.Site.seen l.site);
  line : g.S.Site.line l.site ≡ g.S.Site.line l.fn.site;
}
