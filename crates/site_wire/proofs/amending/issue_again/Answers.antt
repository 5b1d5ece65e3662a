use Rattle.std.proofs.Common.{arith}
use Rattle.std.specs.Option.{option_map}
use Rattle.esc_model.specs.Orders.{write_order}
use Rattle.site_wire.specs.Answering.{found_of}
use Rattle.site_wire.specs.Orders.{datagram_of}
use Rattle.site_wire.specs.Sent.{exchanged}
use Rattle.site_wire.proofs.Due.{write_due}
use Rattle.site_wire.proofs.Sends.{own_once, own_then, sends_as, write_own}
use Rattle.site_wire.proofs.amending.issue_again.Goals as goal

pub pass-requires : goal.pass-requires
pass-requires g c = write_due c.args.half.now (datagram_of c.write_order.result) c.args.slave c.requires.slave c.args.write
    (omega arith) (omega arith) c.requires.inside c.requires.flying c.write_order.ensures

pub returns-in_err-answer : goal.returns-in_err-answer
returns-in_err-answer g c =
    let d = write_order c.args.slave c.args.write.word c.args.write.value in
    let answer = option_map found_of c.pass.result in
    own_then c.args.slave c.args.half.now c.args.line.now.log.all c.clear.new.line.log.all c.pass.new.self.log.all c.clear.ensures
    (own_once c.args.slave c.args.half.now c.clear.new.line.log.all c.pass.new.self.log.all (exchanged d answer)
    (sends_as c.clear.new.line.log.all c.pass.new.self.log.all (datagram_of c.write_order.result) d answer c.write_order.ensures c.pass.ensures.sends)
    (write_own c.args.slave c.args.half.now c.args.write answer c.requires.slave (omega arith) (omega arith) c.requires.flying))

pub returns : goal.returns
returns g c =
    let d = write_order c.args.slave c.args.write.word c.args.write.value in
    let answer = option_map found_of c.pass.result in
    own_then c.args.slave c.args.half.now c.args.line.now.log.all c.clear.new.line.log.all c.pass.new.self.log.all c.clear.ensures
    (own_once c.args.slave c.args.half.now c.clear.new.line.log.all c.pass.new.self.log.all (exchanged d answer)
    (sends_as c.clear.new.line.log.all c.pass.new.self.log.all (datagram_of c.write_order.result) d answer c.write_order.ensures c.pass.ensures.sends)
    (write_own c.args.slave c.args.half.now c.args.write answer c.requires.slave (omega arith) (omega arith) c.requires.flying))
