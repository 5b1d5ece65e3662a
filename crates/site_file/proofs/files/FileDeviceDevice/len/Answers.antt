use Rattle.site_file.proofs.Following.{length_asks}
use Rattle.site_file.proofs.files.FileDeviceDevice.len.Goals as goal

pub returns-clause-follows : goal.returns-clause-follows
returns-clause-follows g c = length_asks _ _ _ c.ask_length.ensures.asks
