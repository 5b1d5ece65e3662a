use Rattle.site_core.proofs.DeviceCalls.{Reads-adds_nothing, SyncsDisk-adds_nothing, CyclesFrame-adds_nothing}
use Rattle.site_core.proofs.laws.reading_adds_nothing.Goals as goal

pub returns-clause-length : goal.returns-clause-length
returns-clause-length c = λ old result new gives. Reads-adds_nothing old result new gives.reads

pub returns-clause-read : goal.returns-clause-read
returns-clause-read c = λ old at count result bytes new reads. Reads-adds_nothing old result new reads.reads

pub returns-clause-sync : goal.returns-clause-sync
returns-clause-sync c = SyncsDisk-adds_nothing

pub returns-clause-cycle : goal.returns-clause-cycle
returns-clause-cycle c = CyclesFrame-adds_nothing
