use Rattle.std.proofs.Common.{◌≡◌, false, None, is_some, refl, sym, subst, ◌∙◌}
use Rattle.ecat_frame.specs.Frame.{Pdu, pdu}
use Rattle.wire_frames.specs.Out.{LooksAround}
use Rattle.wire_frames.specs.Sending.{LeavesRunning}
use Rattle.wire_frames.specs.declared.stations.Stations.{Stations}
use Rattle.site_wire.specs.Reaching.{PassesOn}
use Rattle.site_wire.proofs.Ordered.{order_leaves}
use Rattle.site_wire.proofs.Passing.{none_of, passes_back, passes_lost}
use Rattle.site_wire.proofs.reach.LiveLineReach.pass.Goals as goal

pub pass-requires : goal.pass-requires
pass-requires g c = record {
  may = λ lent. subst LeavesRunning (sym c.datagram-asked.ensures.same) (order_leaves c.args.order.now);
}

pub returns-in_default : goal.returns-in_default
returns-in_default g c =
    let runs : is_some c.args.self.now.reason ≡ false = cc in
    let none = none_of c.args.self.now.reason runs in
    let about = c.unanswered.result in
    subst (λ (d : Pdu). PassesOn g.W.Wire.gives g.W.Wire.takes c.args.self.now c.stop.new.self d None) c.datagram-asked.ensures.same
    (passes_lost g.W.Wire.gives g.W.Wire.takes c.args.self.now c.stop.new.self (c.stop.ensures.stations ∙ c.pass.ensures.same) (pdu c.datagram-asked.result)
    c.pass.new.self.out about.0 None runs (c.pass.ensures.lost c.in_default.is)
    (subst (λ (s : Stations). LooksAround g.W.Wire.takes s.by_slave about.0 c.pass.new.self.out c.stop.new.self.wire.out) c.pass.ensures.same
    (c.stop.ensures.looks none)) refl (c.stop.ensures.reason none))

pub returns : goal.returns
returns g c =
    let runs : is_some c.args.self.now.reason ≡ false = cc in
    let returned = c.in-Some.returned in
    let later = record c.args.self.now { wire = c.pass.new.self } in
    subst (λ (d : Pdu). PassesOn g.W.Wire.gives g.W.Wire.takes c.args.self.now later d c.at.result) c.datagram-asked.ensures.same
    (passes_back g.W.Wire.gives g.W.Wire.takes c.args.self.now later c.pass.ensures.same (pdu c.datagram-asked.result) returned.address returned.frame
    returned.again c.at.result runs c.in-Some.ensures.reached c.in-Some.ensures.to c.in-Some.ensures.came c.in-Some.ensures.count c.at.ensures refl)
