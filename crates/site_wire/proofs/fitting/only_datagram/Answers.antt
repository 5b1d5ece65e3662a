use Rattle.std.proofs.Common.{arith}
use Rattle.ecat_frame.specs.Frame.{pdu}
use Rattle.site_wire.proofs.Only.{only_one}
use Rattle.site_wire.proofs.fitting.only_datagram.Goals as goal

pub returns : goal.returns
returns c =
    only_one c.args.frame.now (pdu c.datagram.result) (omega (arith, c.count.ensures, c.if-count-ne1.false)) c.datagram.ensures
