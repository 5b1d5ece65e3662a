use Rattle.esc_rom.proofs.InSteps.{issued-in-steps, settled-in-steps, opened-in-steps, read-in-steps}
use Rattle.esc_rom.proofs.laws.steps_do_as_calls.Goals as goal

pub returns-clause-opened : goal.returns-clause-opened
returns-clause-opened c = opened-in-steps

pub returns-clause-read : goal.returns-clause-read
returns-clause-read c = read-in-steps

pub returns-clause-issued : goal.returns-clause-issued
returns-clause-issued c = issued-in-steps

pub returns-clause-settled : goal.returns-clause-settled
returns-clause-settled c = settled-in-steps
