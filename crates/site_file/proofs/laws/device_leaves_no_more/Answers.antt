use Rattle.site_file.proofs.Leaving.{rest_leaves_no_more, write_leaves_no_more, sync_of_leaves_no_more}
use Rattle.site_file.proofs.laws.device_leaves_no_more.Goals as goal

pub returns-clause-rest : goal.returns-clause-rest
returns-clause-rest g c = rest_leaves_no_more _

pub returns-clause-write : goal.returns-clause-write
returns-clause-write g c = write_leaves_no_more _

pub returns-clause-sync : goal.returns-clause-sync
returns-clause-sync g c = sync_of_leaves_no_more _
