use Rattle.site_core.proofs.DeviceCalls.{WritesDisk-left}
use Rattle.site_core.proofs.laws.write_leaves_begun.Goals as goal

pub returns-clause-only : goal.returns-clause-only
returns-clause-only c = WritesDisk-left
