use Rattle.std.proofs.Common.{◌∙◌, refl, arith}
use Rattle.wire_frames.proofs.Out.{none_yet, once_more, more_than_once, came_back, never_came}
use Rattle.wire_frames.proofs.numbered.NumberedWire.carried.Goals as goal

pub loop-sending-init : goal.loop-sending-init
loop-sending-init g c = record {
  lent = refl;
  same = refl;
  number = refl;
  out = none_yet c.args.numbered.now c.args.self.now.out;
  given = λ more. absurd (omega (arith, more));
}

pub returns-in-Some-clause-out : goal.returns-in-Some-clause-out
returns-in-Some-clause-out g c =
    came_back g.W.Wire.takes c.args.numbered.now c.loop-sending.sending c.args.self.now.out c.receive.new.self.out (omega arith)
    (once_more c.args.numbered.now c.loop-sending.sending c.args.self.now.out c.loop-sending.self.out c.send.new.self.out c.receive.new.self.out
    c.loop-sending.invariant.out c.send.ensures.out c.receive.ensures.out) c.send.ensures.given

pub returns-in-Some-clause-again : goal.returns-in-Some-clause-again
returns-in-Some-clause-again g c =
    more_than_once c.args.numbered.now c.loop-sending.sending c.args.self.now.out c.receive.new.self.out
    (once_more c.args.numbered.now c.loop-sending.sending c.args.self.now.out c.loop-sending.self.out c.send.new.self.out c.receive.new.self.out
    c.loop-sending.invariant.out c.send.ensures.out c.receive.ensures.out)

pub loop-sending-preserved : goal.loop-sending-preserved
loop-sending-preserved g c = record {
  lent = c.receive.ensures.lent ∙ c.send.ensures.lent ∙ c.loop-sending.invariant.lent;
  same = c.receive.ensures.same ∙ c.send.ensures.same ∙ c.loop-sending.invariant.same;
  number = c.receive.ensures.number ∙ c.send.ensures.number ∙ c.loop-sending.invariant.number;
  out = once_more c.args.numbered.now c.loop-sending.sending c.args.self.now.out c.loop-sending.self.out c.send.new.self.out c.receive.new.self.out
      c.loop-sending.invariant.out c.send.ensures.out c.receive.ensures.out;
  given = λ more. c.send.ensures.given;
}

pub returns-clause-out : goal.returns-clause-out
returns-clause-out g c =
    never_came g.W.Wire.takes c.args.numbered.now c.loop-sending.sending c.args.self.now.out c.loop-sending.self.out (omega arith)
    c.loop-sending.invariant.out c.loop-sending.invariant.given
