use Rattle.site_wire.proofs.FollowingUp.{up_well, up_then}
use Rattle.site_wire.proofs.device.WireDevice.confirm.Goals as goal

pub returns-then-is_value-clause-up : goal.returns-then-is_value-clause-up
returns-then-is_value-clause-up g c =
    up_well c.args.slave c.args.half.now c.args.write c.args.self.now.sender.log.all c.read_back-found.new.self.sender.log.all c.read_back-found.result
    (c.is_value.ensures c.if-is_value.true) c.read_back-found.ensures.back

pub returns-clause-up : goal.returns-clause-up
returns-clause-up g c =
    up_then c.args.slave c.args.half.now c.args.write c.args.self.now.sender.log.all c.read_back-found.new.self.sender.log.all c.try_again.new.self.sender.log.all
    c.read_back-found.result c.try_again.new.self.resting c.read_back-found.ensures.back c.try_again.ensures.up
