use Rattle.site_wire.specs.declared.sending.Exchange.{Exchange}
use Rattle.std.proofs.Common.{List, sym, subst, ◌∙◌}
use Rattle.site_wire.specs.Following.{FollowsUp}
use Rattle.site_wire.proofs.FollowingUp.{up_read, up_unread}
use Rattle.site_wire.proofs.device.WireDevice.end_in_error.Goals as goal

pub returns-in-Some-clause-up : goal.returns-in-Some-clause-up
returns-in-Some-clause-up g c =
    up_read c.args.slave c.args.half.now c.args.write c.args.self.now.sender.log.all c.read_back.new.self.sender.log.all c.in-Some.value c.read_back.result
    c.ended_with-self.result c.in-Some.is c.ended_with-self.ensures c.read_back.ensures.back

pub returns-in-None-clause-up : goal.returns-in-None-clause-up
returns-in-None-clause-up g c =
    subst (λ (s : List Exchange). FollowsUp c.args.slave c.args.half.now c.args.write c.args.self.now.sender.log.all s c.stop.new.self.resting) (sym c.stop.ensures.sent)
    (up_unread c.args.slave c.args.half.now c.args.write c.args.self.now.sender.log.all c.read_back.new.self.sender.log.all c.read_back.result c.stop.new.self.resting
    (c.stop.ensures.rests ∙ c.read_back.ensures.rests ∙ c.requires.stays) c.read_back.ensures.back)
