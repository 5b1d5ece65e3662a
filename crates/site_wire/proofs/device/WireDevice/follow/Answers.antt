use Rattle.site_wire.specs.declared.sending.Exchange.{Exchange}
use Rattle.std.proofs.Common.{List, sym, subst, ◌∙◌}
use Rattle.site_wire.specs.Following.{FollowsUp}
use Rattle.site_wire.proofs.FollowingUp.{up_nothing}
use Rattle.site_wire.proofs.device.WireDevice.follow.Goals as goal

pub returns-then-eq-clause-up : goal.returns-then-eq-clause-up
returns-then-eq-clause-up g c =
    subst (λ (s : List Exchange). FollowsUp c.args.slave c.args.half.now c.args.write c.args.self.now.sender.log.all s c.set_unconfirmed.new.self.resting) (sym c.set_unconfirmed.ensures.sent)
    (up_nothing c.args.slave c.args.half.now c.args.write c.args.self.now.sender.log.all c.set_unconfirmed.new.self.resting (c.set_unconfirmed.ensures.rests ∙ c.requires.stays))

pub returns-else-eq-clause-up : goal.returns-else-eq-clause-up
returns-else-eq-clause-up g c = up_nothing c.args.slave c.args.half.now c.args.write c.args.self.now.sender.log.all c.args.self.now.resting c.requires.stays
