use Rattle.kept_wire.proofs.Keeping.{disk_is_on_file, part_is_on_wire}
use Rattle.kept_wire.proofs.laws.a_part_is_on_a_wire.Goals as goal

pub returns-clause-slave : goal.returns-clause-slave
returns-clause-slave g c = part_is_on_wire g.row.L.Denot g.row.F.Denot g.row.C.Denot

pub returns-clause-disk : goal.returns-clause-disk
returns-clause-disk g c = disk_is_on_file g.row.L.Denot g.row.F.Denot g.row.C.Denot
