use Rattle.kept_wire.proofs.Keeping.{site_keeps_on_wire, site_serves_on_wire}
use Rattle.kept_wire.proofs.laws.a_station_keeps_a_wire.Goals as goal

pub returns-clause-keeps : goal.returns-clause-keeps
returns-clause-keeps g c = site_keeps_on_wire g.row.L.Denot g.row.F.Denot g.row.C.Denot

pub returns-clause-serves : goal.returns-clause-serves
returns-clause-serves g c = site_serves_on_wire g.row.L.Denot g.row.F.Denot g.row.C.Denot
