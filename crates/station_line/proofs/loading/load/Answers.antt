use Rattle.std.proofs.Common.{inl, inr, subst}
use Rattle.station_files.specs.Files.{Known}
use Rattle.station_files.specs.FileNames.{spelt}
use Rattle.station_files.specs.ScriptFiles.{SpellsCommands}
use Rattle.station_files.proofs.Loaded.{handed_on}
use Rattle.station_line.specs.Refusals.{RefusesRun}
use Rattle.station_line.proofs.Validated.{has_journal, journal_refused, run_separate, script_refused}
use Rattle.station_line.proofs.loading.load.Goals as goal

pub returns-in-None-clause-spelt : goal.returns-in-None-clause-spelt
returns-in-None-clause-spelt g c = subst (λ (files : Known). SpellsCommands files c.args.script.now c.in-Ok-load_commands.commands.items) c.load_session.ensures.same c.in-Ok-load_commands.ensures.spelt

pub returns-in-None-clause-journal : goal.returns-in-None-clause-journal
returns-in-None-clause-journal g c =
    let session = c.in_ok-session.session in
    has_journal session.site session.refusal c.in_ok-session.ensures.validated c.in-None.is

pub returns-in-None-clause-separate : goal.returns-in-None-clause-separate
returns-in-None-clause-separate g c =
    let files = c.in-Ok.files in
    run_separate g.S.Store.leads c.in_ok-session.session.line c.args.name.now c.args.script.now files.written (spelt files.names.items)
    c.in-Ok.ensures.written c.in-Ok.ensures.names c.in-Ok-load_commands.ensures.separate

pub returns-in-Some-clause-refused : goal.returns-in-Some-clause-refused
returns-in-Some-clause-refused g c =
    let session = c.in_ok-session.session in
    inr (inr (journal_refused (g.S.Store.files c.args.store.now) c.args.name.now session.line session.site session.refusal c.in-Some.fault c.of_journal.result c.in_ok-session.ensures.loaded c.in_ok-session.ensures.validated c.in-Some.is c.of_journal.ensures))

pub returns-in-Err-clause-refused : goal.returns-in-Err-clause-refused
returns-in-Err-clause-refused g c =
    let session = c.in_ok-session.session in
    let files = c.in-Ok.files in
    script_refused (g.S.Store.files c.args.store.now) (g.S.Store.files c.load_session.new.store) g.S.Store.leads session.line c.args.name.now c.args.script.now session.site files.has_capture files.written (spelt files.names.items) c.in-Err.fault
    c.in_ok-session.ensures.loaded c.load_session.ensures.same c.in-Ok.ensures.capture c.in-Ok.ensures.written c.in-Ok.ensures.names c.in-Err.ensures.refused

pub returns-in_err-session-clause-refused : goal.returns-in_err-session-clause-refused
returns-in_err-session-clause-refused g c =
    handed_on (RefusesRun (g.S.Store.files c.args.store.now) g.S.Store.leads c.args.name.now c.args.script.now) c.from_residual.result c.in_err-session.field-0.0 c.from_residual.ensures.1
    (inl c.in_err-session.ensures.refused)
