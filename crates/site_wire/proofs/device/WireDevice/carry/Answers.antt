use Rattle.ecat_frame.specs.Frame.{pdu}
use Rattle.site_wire.proofs.FollowingUp.{frame_known, frame_ignored}
use Rattle.site_wire.proofs.device.WireDevice.carry.Goals as goal

pub returns-in-Some-fit_datagram-clause-carries : goal.returns-in-Some-fit_datagram-clause-carries
returns-in-Some-fit_datagram-clause-carries g c =
    frame_known c.args.slave c.in-Some.number c.args.half.now c.args.frame.now c.in-Some.ensures.number.0 (pdu c.in-Some-fit_datagram.sent)
    c.args.self.now.sender.log.all c.args.self.now.is_over c.in-Some-fit_datagram.ensures (c.is_known.ensures.0 c.if-is_known.true)

pub returns-in-Some-2-clause-carries : goal.returns-in-Some-2-clause-carries
returns-in-Some-2-clause-carries g c =
    frame_ignored c.args.slave c.in-Some.number c.args.half.now c.args.frame.now c.in-Some.ensures.number.0 (pdu c.in-Some-fit_datagram.sent)
    c.args.self.now.sender.log.all c.args.self.now.is_over c.in-Some-fit_datagram.ensures (c.is_ignored.ensures.0 c.if-is_ignored.true)
