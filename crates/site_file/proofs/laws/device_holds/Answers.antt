use Rattle.site_file.proofs.Holding.{new_holds, rest_holds, write_holds, sync_holds, length_holds, read_holds}
use Rattle.site_file.proofs.laws.device_holds.Goals as goal

pub returns-clause-begins : goal.returns-clause-begins
returns-clause-begins g c = new_holds

pub returns-clause-rest : goal.returns-clause-rest
returns-clause-rest g c = rest_holds _

pub returns-clause-write : goal.returns-clause-write
returns-clause-write g c = write_holds _

pub returns-clause-sync : goal.returns-clause-sync
returns-clause-sync g c = sync_holds _

pub returns-clause-length : goal.returns-clause-length
returns-clause-length g c = length_holds _

pub returns-clause-read : goal.returns-clause-read
returns-clause-read g c = read_holds _
