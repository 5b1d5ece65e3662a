use Rattle.std.proofs.Common.{refl, sym}
use Rattle.rom_steps.specs.Calls.Steps.{moved, over}
use Rattle.rom_steps.proofs.Numbered.{lost-back}
use Rattle.rom_steps.proofs.calls.take_loss.Goals as goal

pub returns-in-Some-next_of : goal.returns-in-Some-next_of
returns-in-Some-next_of c =
    moved c.in-Some.step c.take.result refl (sym c.in-Some.ensures) c.access_of.ensures (λ slave came is. c.take.ensures slave came (lost-back came is))

pub returns-in-None-next_of : goal.returns-in-None-next_of
returns-in-None-next_of c = over c.in-Some.step refl (sym c.in-Some.ensures) c.in-None-next_of.ensures.next refl
