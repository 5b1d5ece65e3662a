use Rattle.std.proofs.Common.{◌≡◌, ◌*◌, min, replicate}
use Rattle.site_journal.specs.Formatting.{WritesPieces}
use Rattle.site_journal.proofs.Laying.{Laid}
use Rattle.site_journal.proofs.formatting.lay_zeros.Given as goal

abbrev pub invariant-loop-piece : goal.invariant-loop-piece
invariant-loop-piece g l = record {
  laid : Laid (g.S.Site.seen l.fn.site) l.at (replicate (min (4096 * l.piece) l.total) 0) l.total l.piece (g.S.Site.seen l.site);
  pieces : WritesPieces (g.S.Site.seen l.fn.site) (g.S.Site.seen l.site);
  line : g.S.Site.line l.site ≡ g.S.Site.line l.fn.site;
}
