use Rattle.std.proofs.Common.{◌≡◌, true, false, refl, sym, ◌∙◌}
use Rattle.site_shadow.specs.declared.device.Passing.TheVariants.{Stops}
use Rattle.site_shadow.specs.declared.pattern.Pattern.TheVariants.{New}
use Rattle.site_wire.proofs.Following.{nothing_asks, nothing_passes}
use Rattle.site_wire.proofs.device.WireDeviceDevice.exchange.Goals as goal

pub returns-then-self-clause-follows : goal.returns-then-self-clause-follows
returns-then-self-clause-follows g c = nothing_asks c.args.self.now c.args.self.now (Stops New) refl (record { sent = refl; over = λ going. going })

pub returns-then-is_some-clause-follows : goal.returns-then-is_some-clause-follows
returns-then-is_some-clause-follows g c = nothing_passes c.args.self.now c.args.self.now refl (record { sent = refl; over = λ going. going })

pub returns-clause-follows : goal.returns-clause-follows
returns-clause-follows g c =
    nothing_asks c.args.self.now c.stop.new.self (Stops New) c.stop.ensures.journal
    (record { sent = c.stop.ensures.sent; over = λ going. absurd (let e : true ≡ false = sym c.stop.ensures.over ∙ going in cc) })
