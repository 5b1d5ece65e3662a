use Rattle.std.proofs.Common.{refl}
use Rattle.ecat_frame.specs.Frame.{pdu}
use Rattle.site_wire.specs.Joining.{is_there}
use Rattle.site_wire.proofs.answers.Answer.at.Goals as goal

pub returns : goal.returns
returns c = is_there c.read.result (pdu c.datagram.result) c.datagram.ensures c.read.ensures.found c.read.ensures.again refl
