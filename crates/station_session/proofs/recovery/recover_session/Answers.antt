use Rattle.std.proofs.Common.{inr}
use Rattle.station_files.specs.declared.faults.Failure.TheVariants as failures
use Rattle.station_session.proofs.Ending.{ends-recovery-opened, ends-unrecovered}
use Rattle.station_session.proofs.Noting.{one_noted}
use Rattle.station_session.proofs.recovery.recover_session.Goals as goal

pub returns-in-Ok-clause-ends : goal.returns-in-Ok-clause-ends
returns-in-Ok-clause-ends g c =
    ends-recovery-opened _ (g.S.Store.files c.args.store.now) (g.S.Store.files c.open_files.new.store) (g.S.Store.files c.recover_opened.new.store)
    c.args.session.line c.args.session.site.seen c.recover_opened.result c.open_files.ensures.others c.recover_opened.ensures.ends

pub returns-in-Err-clause-ends : goal.returns-in-Err-clause-ends
returns-in-Err-clause-ends g c =
    ends-unrecovered _ (g.S.Store.files c.args.store.now) (g.S.Store.files c.open_files.new.store) c.args.session.line c.args.session.site.seen
    c.without_files.result c.without_files.ensures.begun c.without_files.ensures.reported c.open_files.ensures.others
    (rw c.without_files.ensures.status c.note.ensures.fault)

pub returns-in-Err-clause-noted : goal.returns-in-Err-clause-noted
returns-in-Err-clause-noted g c = rw c.without_files.ensures.status (inr (c.note.ensures.fault, one_noted c.args.failures.now c.note.new.self (failures.Fault c.in-Err.fault) c.note.ensures.noted))
