use Rattle.std.proofs.Common.{◌++◌, ◌∷◌, [], inl, inr}
use Rattle.station_files.specs.FileNames.{spelt}
use Rattle.station_files.specs.declared.faults.Fault.TheVariants.{Memory}
use Rattle.station_files.proofs.Loaded.{handed_on}
use Rattle.station_line.specs.Refusals.{RefusesCommandFiles}
use Rattle.station_line.proofs.Validated.{joined_separate, joined_refused}
use Rattle.station_line.proofs.loading.load_commands.Goals as goal

pub returns-in-Ok-clause-separate : goal.returns-in-Ok-clause-separate
returns-in-Ok-clause-separate g c =
    let names = c.args.files in
    let all = c.in_ok-all.all in
    joined_separate g.S.Store.leads names.written all.written (spelt names.names.items ++ c.args.script.now ∷ []) (spelt all.names.items) c.in_ok-all.ensures.written c.in_ok-all.ensures.names c.in-Ok.ensures.separate

pub returns-in-Err-clause-refused : goal.returns-in-Err-clause-refused
returns-in-Err-clause-refused g c =
    let names = c.args.files in
    let all = c.in_ok-all.all in
    inr (joined_refused g.S.Store.leads names.has_capture all.has_capture names.written all.written (spelt names.names.items ++ c.args.script.now ∷ []) (spelt all.names.items) c.in-Err.fault
    c.in_ok-all.ensures.capture c.in_ok-all.ensures.written c.in_ok-all.ensures.names c.in-Err.ensures.refused)

pub returns-in_err-loaded-clause-refused : goal.returns-in_err-loaded-clause-refused
returns-in_err-loaded-clause-refused g c =
    let names = c.args.files in
    handed_on (RefusesCommandFiles (g.S.Store.files c.args.store.now) g.S.Store.leads names.has_capture names.written (spelt names.names.items) c.args.script.now) c.from_residual.result c.in_err-loaded.field-0.0 c.from_residual.ensures.1 (inl c.in_err-loaded.ensures.refused)

pub returns-in_err-all-clause-refused : goal.returns-in_err-all-clause-refused
returns-in_err-all-clause-refused g c =
    let names = c.args.files in
    handed_on (RefusesCommandFiles (g.S.Store.files c.args.store.now) g.S.Store.leads names.has_capture names.written (spelt names.names.items) c.args.script.now) c.from_residual-in_err-all.result Memory c.from_residual-in_err-all.ensures.1 (inl tt)
