use Rattle.site_wire.specs.declared.sending.Exchange.{Exchange}
use Rattle.std.proofs.Common.{List, sym, subst, ◌∙◌}
use Rattle.site_wire.specs.Following.{FollowsUp}
use Rattle.site_wire.proofs.FollowingUp.{up_nothing, up_own}
use Rattle.site_wire.proofs.device.WireDevice.try_again.Goals as goal

pub returns-then-self-clause-up : goal.returns-then-self-clause-up
returns-then-self-clause-up g c = up_nothing c.args.slave c.args.half.now c.args.write c.args.self.now.sender.log.all c.args.self.now.resting c.requires.stays

pub returns-in-Some-clause-up : goal.returns-in-Some-clause-up
returns-in-Some-clause-up g c =
    subst (λ (s : List Exchange). FollowsUp c.args.slave c.args.half.now c.args.write c.args.self.now.sender.log.all s c.set_unconfirmed.new.self.resting) (sym c.set_unconfirmed.ensures.sent)
    (up_own c.args.slave c.args.half.now c.args.write c.args.self.now.sender.log.all c.issue_again.new.line.log.all c.set_unconfirmed.new.self.resting
    (c.set_unconfirmed.ensures.rests ∙ c.requires.stays) c.issue_again.ensures)

pub returns-in-None-clause-up : goal.returns-in-None-clause-up
returns-in-None-clause-up g c =
    up_own c.args.slave c.args.half.now c.args.write c.args.self.now.sender.log.all c.issue_again.new.line.log.all c.args.self.now.resting c.requires.stays c.issue_again.ensures
