use Rattle.std.proofs.Common.{ap, inr, refl, false}
use Rattle.station_files.specs.declared.faults.Failure.TheVariants as failures
use Rattle.std.specs.Prelude.{is_some}
use Rattle.station_session.proofs.Ending.{ends-run-opened, run-cut}
use Rattle.station_session.proofs.Noting.{one_noted}
use Rattle.station_session.proofs.run.run_given.Goals as goal

pub returns-in-Ok-clause-ends : goal.returns-in-Ok-clause-ends
returns-in-Ok-clause-ends g c =
    let session = c.args.given.session in
    let old = g.S.Store.files c.args.store.now in
    let new = g.S.Store.files c.run_opened.new.store in
    run-cut (is_some c.args.fuse) false old new session.line session.site c.args.given.commands.items c.run_opened.result.status (ap is_some c.in-None.is)
    (ends-run-opened old (g.S.Store.files c.open_files.new.store) new session.line session.site session.site c.args.given.commands.items c.run_opened.result.status c.open_files.ensures.others refl c.run_opened.ensures.ends)

pub returns-in-Err-clause-noted : goal.returns-in-Err-clause-noted
returns-in-Err-clause-noted g c = rw c.without_files-in-Err.ensures.status (inr (c.note.ensures.fault, one_noted c.args.failures.now c.note.new.self (failures.Fault c.in-Err.fault) c.note.ensures.noted))
