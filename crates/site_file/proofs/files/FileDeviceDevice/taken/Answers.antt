use Rattle.std.proofs.Common.{refl}
use Rattle.site_shadow.specs.declared.pattern.Pattern.TheVariants.{Old}
use Rattle.site_file.proofs.Following.{same_stops}
use Rattle.site_file.proofs.files.FileDeviceDevice.taken.Goals as goal

pub returns-then-self-clause-follows : goal.returns-then-self-clause-follows
returns-then-self-clause-follows g c = same_stops c.args.self.now c.args.self.now Old refl
