use Rattle.std.proofs.Common.{Err}
use Rattle.site_core.specs.declared.fault.DeviceFault.TheVariants as device
use Rattle.rom_steps.proofs.Stopping.{sends-some, stopped-moves, over-moves}
use Rattle.rom_steps.proofs.taking.stop.Goals as goal

pub returns-in-Some : goal.returns-in-Some
returns-in-Some c = λ slave. stopped-moves slave c.args.step (sends-some slave c.args.step _ (c.in-Some.ensures.next slave))

pub returns-in-None : goal.returns-in-None
returns-in-None c = λ slave. over-moves slave c.args.step (Err device.Stopped) c.in-None.ensures.next
