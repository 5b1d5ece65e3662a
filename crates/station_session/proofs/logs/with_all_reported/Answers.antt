use Rattle.std.proofs.Common.{inl, inr, refl}
use Rattle.station_files.specs.declared.faults.Failure.TheVariants as failures
use Rattle.station_files.specs.declared.faults.Fault.TheVariants.{Unserved}
use Rattle.station_session.proofs.Noting.{one_noted}
use Rattle.station_session.proofs.logs.with_all_reported.Goals as goal

pub returns-then-is_enough-clause-noted : goal.returns-then-is_enough-clause-noted
returns-then-is_enough-clause-noted c = inl (refl, refl)

pub returns-clause-noted : goal.returns-clause-noted
returns-clause-noted c = inr (c.note.ensures.fault, one_noted c.args.failures.now c.note.new.self (failures.Fault Unserved) c.note.ensures.noted)
