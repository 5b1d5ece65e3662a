use Rattle.site_wire.specs.declared.sending.Exchange.{Exchange}
use Rattle.std.proofs.Common.{List, ◌∷◌, [], sym, subst, ◌∙◌}
use Rattle.std.specs.Prelude.{Option}
use Rattle.std.specs.Option.{option_map}
use Rattle.ecat_frame.specs.Frame.{Pdu, pdu}
use Rattle.site_wire.specs.Answering.{found_of}
use Rattle.site_wire.specs.Sent.{exchanged, Sends}
use Rattle.site_wire.specs.declared.answers.Answer.{Answer}
use Rattle.site_wire.specs.Orders.{datagram_of}
use Rattle.site_wire.specs.Due.{IsFit, WritesControl}
use Rattle.site_wire.proofs.Sends.{sends_as}
use Rattle.site_wire.proofs.FollowingUp.{for_once, for_word, none_came, is_busy_of}
use Rattle.site_wire.proofs.device.WireDevice.send.Goals as goal

pub pass-requires : goal.pass-requires
pass-requires g c = record {
  fits = subst (IsFit c.args.half.now) (sym c.of.ensures) c.requires.fits;
  quiet = λ busy. subst (λ (d : Pdu). ¬ WritesControl d) (sym c.of.ensures) (c.requires.quiet busy);
}

pub returns-in_default-clause-sends : goal.returns-in_default-clause-sends
returns-in_default-clause-sends g c =
    for_once c.args.slave c.args.half.now (pdu c.args.sent) c.args.self.now.sender.log.all c.pass.new.self.sender.log.all c.pass.new.self.returned
    c.pass.new.self.is_over c.pass.new.self.resting
    (c.pass.ensures.rests ∙ c.prepare.ensures.rests ∙ c.requires.stays) c.requires.to
    (subst (λ (s : List Exchange). Sends s c.pass.new.self.sender.log.all (exchanged (pdu c.args.sent) (option_map found_of c.pass.new.self.returned) ∷ []))
    c.prepare.ensures.sent
    (sends_as c.prepare.new.self.sender.log.all c.pass.new.self.sender.log.all (datagram_of c.of.result) (pdu c.args.sent)
    (option_map found_of c.pass.new.self.returned) c.of.ensures c.pass.ensures.sends))
    c.pass.ensures.over c.requires.quiet c.requires.news (λ going. sym c.in_flight.ensures.write ∙ c.in_default.is)

pub returns-in_default-returned-clause-sends : goal.returns-in_default-returned-clause-sends
returns-in_default-returned-clause-sends g c =
    for_once c.args.slave c.args.half.now (pdu c.args.sent) c.args.self.now.sender.log.all c.pass.new.self.sender.log.all c.pass.new.self.returned
    c.pass.new.self.is_over c.pass.new.self.resting
    (c.pass.ensures.rests ∙ c.prepare.ensures.rests ∙ c.requires.stays) c.requires.to
    (subst (λ (s : List Exchange). Sends s c.pass.new.self.sender.log.all (exchanged (pdu c.args.sent) (option_map found_of c.pass.new.self.returned) ∷ []))
    c.prepare.ensures.sent
    (sends_as c.prepare.new.self.sender.log.all c.pass.new.self.sender.log.all (datagram_of c.of.result) (pdu c.args.sent)
    (option_map found_of c.pass.new.self.returned) c.of.ensures c.pass.ensures.sends))
    c.pass.ensures.over c.requires.quiet c.requires.news (λ going. absurd (none_came c.pass.new.self.returned c.in_default-returned.is (c.pass.ensures.over going)))

pub returns-clause-sends : goal.returns-clause-sends
returns-clause-sends g c =
    let flying = sym c.in_flight.ensures.write ∙ c.in-Some.is in
    for_word c.args.slave c.args.half.now (pdu c.args.sent) c.args.self.now.sender.log.all c.pass.new.self.sender.log.all c.follow.new.self.sender.log.all
    c.in-Some-returned.answer c.in-Some.write c.follow.new.self.is_over c.follow.new.self.resting c.requires.to
    (subst (λ (a : Option Answer). Sends c.args.self.now.sender.log.all c.pass.new.self.sender.log.all (exchanged (pdu c.args.sent) (option_map found_of a) ∷ []))
    c.in-Some-returned.is
    (subst (λ (s : List Exchange). Sends s c.pass.new.self.sender.log.all (exchanged (pdu c.args.sent) (option_map found_of c.pass.new.self.returned) ∷ []))
    c.prepare.ensures.sent
    (sends_as c.prepare.new.self.sender.log.all c.pass.new.self.sender.log.all (datagram_of c.of.result) (pdu c.args.sent)
    (option_map found_of c.pass.new.self.returned) c.of.ensures c.pass.ensures.sends)))
    (c.requires.quiet (is_busy_of c.args.half.now c.in-Some.write flying)) flying c.follow.ensures.up
