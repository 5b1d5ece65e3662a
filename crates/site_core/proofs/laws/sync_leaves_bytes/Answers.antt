use Rattle.site_core.proofs.DeviceCalls.{SyncsDisk-bytes}
use Rattle.site_core.proofs.laws.sync_leaves_bytes.Goals as goal

pub returns : goal.returns
returns c = SyncsDisk-bytes
