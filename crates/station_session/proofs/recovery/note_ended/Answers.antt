use Rattle.std.proofs.Common.{inl, inr, refl}
use Rattle.station_files.specs.declared.faults.Failure.TheVariants as failures
use Rattle.station_session.proofs.Noting.{one_noted}
use Rattle.station_session.proofs.recovery.note_ended.Goals as goal

pub returns-in-Ok-clause-noted : goal.returns-in-Ok-clause-noted
returns-in-Ok-clause-noted c = inl (refl, refl)

pub returns-in-Err-clause-noted : goal.returns-in-Err-clause-noted
returns-in-Err-clause-noted c = inr (c.note.ensures.fault, one_noted c.args.failures.now c.note.new.self (failures.Fault c.in-Err.fault) c.note.ensures.noted)
