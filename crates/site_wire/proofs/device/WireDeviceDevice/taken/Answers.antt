use Rattle.std.proofs.Common.{refl}
use Rattle.site_shadow.specs.declared.pattern.Pattern.TheVariants.{New}
use Rattle.site_wire.proofs.Following.{nothing_keeps, nothing_stops}
use Rattle.site_wire.proofs.device.WireDeviceDevice.taken.Goals as goal

pub returns-then-self-clause-follows : goal.returns-then-self-clause-follows
returns-then-self-clause-follows g c = nothing_stops c.args.self.now c.args.self.now New refl (record { sent = refl; over = λ going. going })

pub returns-then-self-2-clause-follows : goal.returns-then-self-2-clause-follows
returns-then-self-2-clause-follows g c = nothing_stops c.args.self.now c.validate.new.self New c.validate.ensures.journal c.validate.ensures.quiet

pub returns-clause-follows : goal.returns-clause-follows
returns-clause-follows g c = nothing_keeps c.args.self.now c.validate.new.self c.validate.ensures.journal c.validate.ensures.quiet
