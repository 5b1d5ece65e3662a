use Rattle.rom_steps.proofs.step.begin_waiting.Goals as goal

pub returns-clause-course : goal.returns-clause-course
returns-clause-course c = λ slave log result so. so
