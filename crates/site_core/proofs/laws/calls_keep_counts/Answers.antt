use Rattle.site_core.proofs.Counts.{Reads-counts, SyncsDisk-counts, WritesDisk-counts, ExchangesFrame-counts}
use Rattle.site_core.proofs.laws.calls_keep_counts.Goals as goal

pub returns-clause-length : goal.returns-clause-length
returns-clause-length c = λ old result new gives. Reads-counts old result new gives.reads.call gives.reads.same

pub returns-clause-read : goal.returns-clause-read
returns-clause-read c = λ old at count result bytes new reads. Reads-counts old result new reads.reads.call reads.reads.same

pub returns-clause-write : goal.returns-clause-write
returns-clause-write c = WritesDisk-counts

pub returns-clause-sync : goal.returns-clause-sync
returns-clause-sync c = SyncsDisk-counts

pub returns-clause-exchange : goal.returns-clause-exchange
returns-clause-exchange c = ExchangesFrame-counts

pub returns-clause-cycle : goal.returns-clause-cycle
returns-clause-cycle c = λ old sent result answer new cycles. Reads-counts old result new cycles.call cycles.same
