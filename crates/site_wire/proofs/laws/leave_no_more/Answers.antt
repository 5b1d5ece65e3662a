use Rattle.site_wire.proofs.Together.{cut_between_calls}
use Rattle.site_wire.proofs.laws.leave_no_more.Goals as goal

pub returns : goal.returns
returns g c = cut_between_calls g.row.L.Denot g.row.F.Denot g.row.C.Denot
