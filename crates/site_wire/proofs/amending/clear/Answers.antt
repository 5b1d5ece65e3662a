use Rattle.std.specs.Option.{option_map}
use Rattle.esc_model.specs.Orders.{clear_order}
use Rattle.site_wire.specs.Answering.{found_of}
use Rattle.site_wire.specs.Orders.{datagram_of}
use Rattle.site_wire.specs.Sent.{exchanged}
use Rattle.site_wire.proofs.Due.{clear_due}
use Rattle.site_wire.proofs.Sends.{own_once, clear_own, sends_as}
use Rattle.site_wire.proofs.amending.clear.Goals as goal

pub pass-requires : goal.pass-requires
pass-requires g c = clear_due c.args.half.now (datagram_of c.to.result) c.args.slave c.requires c.to.ensures

pub returns : goal.returns
returns g c =
    let answer = option_map found_of c.pass.result in
    own_once c.args.slave c.args.half.now c.args.line.now.log.all c.pass.new.self.log.all (exchanged (clear_order c.args.slave) answer)
    (sends_as c.args.line.now.log.all c.pass.new.self.log.all (datagram_of c.to.result) (clear_order c.args.slave) answer c.to.ensures
    c.pass.ensures.sends) (clear_own c.args.slave c.args.half.now answer c.requires)
