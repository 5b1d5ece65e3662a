use Rattle.rom_steps.proofs.CompleteLaws.{went-bounded, went-ended, went-stopped}
use Rattle.rom_steps.proofs.laws.complete_accesses.Goals as goal

pub returns-clause-ended : goal.returns-clause-ended
returns-clause-ended c = went-ended

pub returns-clause-stopped : goal.returns-clause-stopped
returns-clause-stopped c = went-stopped

pub returns-clause-bounded : goal.returns-clause-bounded
returns-clause-bounded c = went-bounded
