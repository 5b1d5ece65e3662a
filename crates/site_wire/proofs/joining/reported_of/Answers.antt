use Rattle.std.proofs.Common.{Option, sym, subst}
use Rattle.ecat_frame.specs.Frame.{Pdu}
use Rattle.wire_frames.specs.declared.numbered.Carried.{Carried}
use Rattle.site_wire.specs.Joining.{ReportedAt, ReportedOf}
use Rattle.site_wire.specs.Orders.{datagram_of}
use Rattle.site_wire.proofs.joining.reported_of.Goals as goal

pub returns-in-Some : goal.returns-in-Some
returns-in-Some c =
    let order = datagram_of c.args.order.now in
    subst (λ (carried : Option Carried). ReportedOf order c.args.address c.args.place carried c.at.result) (sym c.in-Some.is)
    (subst (λ (d : Pdu). ReportedAt d c.args.address c.args.place c.in-Some.back.frame c.in-Some.back.again c.at.result) c.datagram.ensures.same c.at.ensures)
