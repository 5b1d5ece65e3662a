use Rattle.site_file.proofs.Following.{write_keeps}
use Rattle.site_file.proofs.files.FileDeviceDevice.write.Goals as goal

pub returns-clause-follows : goal.returns-clause-follows
returns-clause-follows g c = write_keeps _ _ _ _ _ c.write_journal.ensures.asks
