use Rattle.std.proofs.Common.{true, false, ap}
use Rattle.std.specs.Prelude.{is_some}
use Rattle.ecat_frame.specs.Frame.{pdu}
use Rattle.wire_frames.proofs.Out.{goes_to}
use Rattle.wire_frames.proofs.numbered.NumberedWire.pass.Goals as goal

pub returns-in_err-frame-clause-lost : goal.returns-in_err-frame-clause-lost
returns-in_err-frame-clause-lost g c = λ none. record {
  address = c.translated-address.result;
  reaches = record {
    register_is = c.translated-address.ensures.register;
    station_is = c.translated-address.ensures.station;
    other_is = c.translated-address.ensures.other;
  };
  goes = goes_to g.W.Wire.takes (pdu c.args.sent) c.translated-address.result c.pass_all.new.self.number c.in_ok-asked.asked c.args.self.now.out
      c.pass_all.new.self.out (is_some c.pass_all.result) false c.in_ok-asked.ensures.one (ap is_some c.in_err-frame.was) c.pass_all.ensures.out;
}

pub returns-clause-to : goal.returns-clause-to
returns-clause-to g c =
    goes_to g.W.Wire.takes (pdu c.args.sent) c.translated-address.result c.pass_all.new.self.number c.in_ok-asked.asked c.args.self.now.out
    c.pass_all.new.self.out (is_some c.pass_all.result) true c.in_ok-asked.ensures.one (ap is_some c.in_ok-frame.was) c.pass_all.ensures.out
