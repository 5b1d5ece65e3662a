use Rattle.site_wire.proofs.Doings.{cut_leaves_no_more}
use Rattle.site_wire.proofs.laws.moments_leave_no_more.Goals as goal

pub returns-clause-cut : goal.returns-clause-cut
returns-clause-cut g c = cut_leaves_no_more g.row.L.Denot g.row.F.Denot g.row.C.Denot
