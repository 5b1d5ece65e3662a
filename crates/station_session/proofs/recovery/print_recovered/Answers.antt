use Rattle.std.proofs.Common.{inl, inr, refl}
use Rattle.station_files.specs.declared.faults.Failure.TheVariants as failures
use Rattle.station_session.proofs.Noting.{one_noted}
use Rattle.station_session.proofs.recovery.print_recovered.Goals as goal

pub returns-in_default : goal.returns-in_default
returns-in_default g c = inl (refl, refl)

pub returns-in-Ok : goal.returns-in-Ok
returns-in-Ok g c = inl (refl, refl)

pub returns-in-Err : goal.returns-in-Err
returns-in-Err g c = inr (c.note.ensures.fault, one_noted c.args.failures.now c.note.new.self (failures.Fault c.from.result) c.note.ensures.noted)
