use Rattle.std.proofs.Common.{Err, refl, sym}
use Rattle.site_core.specs.declared.fault.DeviceFault.TheVariants as device
use Rattle.rom_steps.specs.Calls.Steps.{moved, over}
use Rattle.rom_steps.proofs.Numbered.{moves-as}
use Rattle.rom_steps.proofs.calls.take_stop.Goals as goal

pub returns-in-Some-next_of : goal.returns-in-Some-next_of
returns-in-Some-next_of c =
    moved c.in-Some.step c.stop.result refl (sym c.in-Some.ensures) c.access_of.ensures
    (λ slave came is. moves-as slave c.in-Some.step c.stop.result came (Err device.Stopped) is (c.stop.ensures slave))

pub returns-in-None-next_of : goal.returns-in-None-next_of
returns-in-None-next_of c = over c.in-Some.step refl (sym c.in-Some.ensures) c.in-None-next_of.ensures.next refl
