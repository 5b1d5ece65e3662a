use Rattle.site_file.proofs.Following.{sync_keeps}
use Rattle.site_file.proofs.files.FileDeviceDevice.sync.Goals as goal

pub returns-clause-follows : goal.returns-clause-follows
returns-clause-follows g c = sync_keeps _ _ _ c.sync_journal.ensures.asks
