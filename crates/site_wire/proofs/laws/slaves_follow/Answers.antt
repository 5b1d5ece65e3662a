use Rattle.site_wire.proofs.Behind.{slaves_are_behind}
use Rattle.site_wire.proofs.laws.slaves_follow.Goals as goal

pub returns : goal.returns
returns g c = slaves_are_behind g.row.L.Denot g.row.F.Denot g.row.C.Denot
