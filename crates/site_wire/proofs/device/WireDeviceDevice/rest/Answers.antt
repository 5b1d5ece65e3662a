use Rattle.std.proofs.Common.{true, false, ◌≡◌, refl, sym, ◌∙◌}
use Rattle.site_shadow.specs.declared.device.Resting.TheVariants as resting
use Rattle.site_wire.proofs.Following.{rest_keeps, over_before}
use Rattle.site_wire.proofs.device.WireDeviceDevice.rest.Goals as goal

pub returns-then-self-clause-follows : goal.returns-then-self-clause-follows
returns-then-self-clause-follows g c = over_before c.args.slave c.args.half.now c.args.frame.now c.args.k c.args.self.now c.if-self.true

pub returns-then-self-2-clause-follows : goal.returns-then-self-2-clause-follows
returns-then-self-2-clause-follows g c =
    rest_keeps c.args.slave c.args.half.now c.args.frame.now c.args.k c.args.self.now c.carry.new.self resting.Stays c.carry.ensures.carries
    c.if-self.false (λ going. absurd (let e : true ≡ false = sym c.if-self-2.true ∙ going in cc)) (λ over. refl) c.carry.ensures.journal c.carry.ensures.own

pub returns-clause-follows : goal.returns-clause-follows
returns-clause-follows g c =
    rest_keeps c.args.slave c.args.half.now c.args.frame.now c.args.k c.args.self.now c.carry.new.self c.carry.new.self.resting c.carry.ensures.carries
    c.if-self.false (λ going. refl) (λ over. absurd (let e : true ≡ false = sym over ∙ c.if-self-2.false in cc)) c.carry.ensures.journal c.carry.ensures.own
