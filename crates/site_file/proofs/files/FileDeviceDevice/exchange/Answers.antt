use Rattle.std.proofs.Common.{refl}
use Rattle.site_shadow.specs.declared.device.Passing.TheVariants.{Stops}
use Rattle.site_shadow.specs.declared.pattern.Pattern.TheVariants.{Old}
use Rattle.site_file.proofs.Following.{same_asks}
use Rattle.site_file.proofs.files.FileDeviceDevice.exchange.Goals as goal

pub returns-then-self-clause-follows : goal.returns-then-self-clause-follows
returns-then-self-clause-follows g c = same_asks c.args.self.now c.args.self.now (Stops Old) refl
