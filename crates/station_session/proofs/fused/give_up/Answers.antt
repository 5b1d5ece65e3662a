use Rattle.station_files.specs.Failures.{met_by}
use Rattle.station_files.specs.declared.faults.Failure.TheVariants as failures
use Rattle.station_session.specs.Noting.{further}
use Rattle.station_session.proofs.Noting.{noted_also, one_noted}
use Rattle.station_session.proofs.fused.give_up.Goals as goal

pub returns-then-is_refused-clause-noted : goal.returns-then-is_refused-clause-noted
returns-then-is_refused-clause-noted g c = one_noted c.args.failures.now c.note-status.new.self (failures.Fault c.of_open.result) c.note-status.ensures.noted

pub returns-clause-noted : goal.returns-clause-noted
returns-clause-noted g c =
    let first = c.note-status in
    let second = c.note_end in
    noted_also c.save_site-saved.result c.args.failures.now first.new.self second.new.self
    (one_noted c.args.failures.now first.new.self (failures.Fault c.of_open.result) first.ensures.noted) second.ensures.noted second.ensures.same
