use Rattle.std.proofs.Common.{refl}
use Rattle.site_shadow.specs.declared.device.Passing.TheVariants.{Fails}
use Rattle.site_wire.proofs.Following.{nothing_asks}
use Rattle.site_wire.proofs.device.WireDeviceDevice.cycle.Goals as goal

pub returns-clause-follows : goal.returns-clause-follows
returns-clause-follows g c = nothing_asks c.args.self.now c.args.self.now Fails refl (record { sent = refl; over = λ going. going })
