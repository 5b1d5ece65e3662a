use Rattle.site_file.proofs.Following.{begins}
use Rattle.site_file.proofs.files.FileDeviceDevice.begin.Goals as goal

pub returns-clause-follows : goal.returns-clause-follows
returns-clause-follows g c seen reported = begins _ c.args.self.now.has_failed c.args.is_new seen c.begin.ensures.begins.none c.must_refuse-self.ensures reported
