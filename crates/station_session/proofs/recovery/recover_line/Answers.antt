use Rattle.std.proofs.Common.{inl, inr}
use Rattle.station_files.proofs.Loaded.{handed_on}
use Rattle.station_line.specs.Refusals.{RefusesRecovery}
use Rattle.station_line.proofs.Opened.{is_fresh}
use Rattle.station_session.proofs.Ending.{recovers}
use Rattle.station_line.proofs.Validated.{has_journal, journal_refused}
use Rattle.station_session.proofs.recovery.recover_line.Goals as goal

pub recover_session-requires-clause-fresh : goal.recover_session-requires-clause-fresh
recover_session-requires-clause-fresh g c κs lives =
    let session = c.in_ok-session.session in
    is_fresh (g.S.Store.files c.args.store.now) c.args.name.now session.line session.site c.in_ok-session.ensures.loaded

pub returns-in-None-clause-recovered : goal.returns-in-None-clause-recovered
returns-in-None-clause-recovered g c =
    let session = c.in_ok-session.session in
    recovers _ g.S.Store.leads (g.S.Store.files c.args.store.now) (g.S.Store.files c.load_session.new.store) (g.S.Store.files c.recover_session.new.store) c.args.name.now session.line session.site c.recover_session.result
    c.in_ok-session.ensures.loaded c.in_ok-session.ensures.separate (has_journal session.site session.refusal c.in_ok-session.ensures.validated c.in-None.is) c.load_session.ensures.same c.recover_session.ensures.ends

pub returns-in-Some-clause-refused : goal.returns-in-Some-clause-refused
returns-in-Some-clause-refused g c =
    let session = c.in_ok-session.session in
    inr (journal_refused (g.S.Store.files c.args.store.now) c.args.name.now session.line session.site session.refusal c.in-Some.fault c.of_journal.result c.in_ok-session.ensures.loaded c.in_ok-session.ensures.validated c.in-Some.is c.of_journal.ensures)

pub returns-in_err-session-clause-refused : goal.returns-in_err-session-clause-refused
returns-in_err-session-clause-refused g c =
    handed_on (RefusesRecovery (g.S.Store.files c.args.store.now) g.S.Store.leads c.args.name.now) c.from_residual.result c.in_err-session.field-0.0 c.from_residual.ensures.1 (inl c.in_err-session.ensures.refused)
