use Rattle.site_file.proofs.Following.{read_asks}
use Rattle.site_file.proofs.files.FileDeviceDevice.read.Goals as goal

pub returns-clause-follows : goal.returns-clause-follows
returns-clause-follows g c = read_asks _ _ _ c.compare.ensures.asks
