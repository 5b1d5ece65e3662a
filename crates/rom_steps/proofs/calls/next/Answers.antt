use Rattle.std.proofs.Common.{◌≡◌, refl, sym}
use Rattle.rom_steps.specs.Calls.TellsNext.{sends}
use Rattle.rom_steps.proofs.Numbered.{tells_over}
use Rattle.rom_steps.proofs.calls.next.Goals as goal

pub returns-in-Some-next_of : goal.returns-in-Some-next_of
returns-in-Some-next_of c = sends c.in-Some.step refl (sym c.in-Some.ensures) (record { next = c.in-Some-next_of.ensures.next; long = c.in-Some-next_of.ensures.long; after = c.in-Some-next_of.ensures.after })

pub returns-in-None-next_of : goal.returns-in-None-next_of
returns-in-None-next_of c =
    tells_over c.args.access.now c.args.datagram.now (c.args.datagram.now ≡ c.args.datagram.now) c.in-Some.step c.code_of_over.result (sym c.in-Some.ensures)
    c.in-None-next_of.ensures.next c.code_of_over.ensures refl
