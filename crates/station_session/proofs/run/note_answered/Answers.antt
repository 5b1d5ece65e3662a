use Rattle.std.proofs.Common.{inr}
use Rattle.station_files.specs.declared.faults.Failure.TheVariants as failures
use Rattle.station_session.proofs.Noting.{answers_noted, one_noted}
use Rattle.station_session.proofs.run.note_answered.Goals as goal

pub returns-in-Ok-clause-noted : goal.returns-in-Ok-clause-noted
returns-in-Ok-clause-noted c = answers_noted c.in-Ok.answered c.status.result c.args.failures.now c.status.ensures

pub returns-in-Err-clause-noted : goal.returns-in-Err-clause-noted
returns-in-Err-clause-noted c = inr (c.note.ensures.fault, one_noted c.args.failures.now c.note.new.self (failures.Fault c.in-Err.fault) c.note.ensures.noted)
