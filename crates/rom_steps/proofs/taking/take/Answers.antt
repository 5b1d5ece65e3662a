use Rattle.std.proofs.Common.{sym, subst}
use Rattle.rom_steps.specs.declared.step.Step.{Step}
use Rattle.rom_steps.specs.Remaining.{Moves}
use Rattle.rom_steps.proofs.Stepping.{moves}
use Rattle.rom_steps.proofs.taking.take.Goals as goal

pub returns : goal.returns
returns c = λ slave came is. subst (λ (step : Step). Moves slave c.args.step came step) (sym c.after.ensures) (moves slave c.args.back came is c.args.step)
