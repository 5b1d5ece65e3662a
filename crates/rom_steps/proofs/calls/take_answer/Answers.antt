use Rattle.std.proofs.Common.{refl, sym, arith}
use Rattle.rom_steps.specs.Calls.Steps.{moved, over, no_step}
use Rattle.rom_steps.specs.Calls.StepsWith.{steps, other_length}
use Rattle.rom_steps.proofs.Numbered.{answer-back}
use Rattle.rom_steps.proofs.calls.take_answer.Goals as goal

pub returns-in-None : goal.returns-in-None
returns-in-None c = steps (no_step refl (sym c.in-None.ensures) refl) (λ done. absurd (omega arith))

pub returns-in-None-next_of : goal.returns-in-None-next_of
returns-in-None-next_of c = steps (over c.in-Some.step refl (sym c.in-Some.ensures) c.in-None-next_of.ensures.next refl) (λ done. absurd (omega arith))

pub returns-then-content-from : goal.returns-then-content-from
returns-then-content-from c =
    other_length c.in-Some.step c.in-Some-next_of.sent refl (sym c.in-Some.ensures) (record { next = c.in-Some-next_of.ensures.next; long = c.in-Some-next_of.ensures.long; after = c.in-Some-next_of.ensures.after })
    (λ same. let other = c.if-content-from.true in let long = c.from.ensures in omega arith) refl

pub returns : goal.returns
returns c =
    steps
    (moved c.in-Some.step c.take.result refl (sym c.in-Some.ensures) c.access_of.ensures
    (λ slave came is. c.take.ensures slave came (answer-back c.args.counter c.args.content.now c.first_four.result came c.first_four.ensures is)))
    (λ done. record {
      step = c.in-Some.step;
      is = sym c.in-Some.ensures;
      datagram = c.in-Some-next_of.sent;
      sends = record { next = c.in-Some-next_of.ensures.next; long = c.in-Some-next_of.ensures.long; after = c.in-Some-next_of.ensures.after };
      long = let same = c.if-content-from.false in let long = c.from.ensures in omega arith;
    })
