use Rattle.std.proofs.Common.{◌≡◌, ◌∙◌, string_bytes, subst, inr}
use Rattle.station_files.specs.Files.{Known}
use Rattle.station_files.specs.LineFiles.{names_of, RefusesSlaves}
use Rattle.station_files.proofs.Loaded.{handed_on}
use Rattle.station_line.specs.Init.{RefusesUnformatted}
use Rattle.station_line.proofs.Refused.{line_refused, is_there, names_refused}
use Rattle.station_line.proofs.init.load_unformatted.Goals as goal

pub returns-in_err-slaves-clause-refused : goal.returns-in_err-slaves-clause-refused
returns-in_err-slaves-clause-refused g c =
    let fault = c.in_err-slaves.field-0.0 in
    let P : Known → Type 0 = λ files. RefusesSlaves files (names_of c.in_ok-line.line) fault in
    handed_on (RefusesUnformatted (g.S.Store.files c.args.store.now) g.S.Store.leads c.args.name.now) c.from_residual-in_err-slaves.result fault c.from_residual-in_err-slaves.ensures.1
    (line_refused _ _ _ fault (inr (c.in_ok-line.line, c.in_ok-line.ensures.line, subst P c.load_line.ensures.same c.in_err-slaves.ensures.refused)))

pub returns-in_err-keep_line_separate-clause-refused : goal.returns-in_err-keep_line_separate-clause-refused
returns-in_err-keep_line_separate-clause-refused g c =
    let files = g.S.Store.files c.args.store.now in
    let fault = c.in_err-keep_line_separate.field-0.0 in
    handed_on (RefusesUnformatted files g.S.Store.leads c.args.name.now) c.from_residual-in_err-keep_line_separate.result fault c.from_residual-in_err-keep_line_separate.ensures.1
    (names_refused files g.S.Store.leads c.args.name.now c.in_ok-line.line fault c.in_ok-line.ensures.line c.in_err-keep_line_separate.ensures.refused)

pub returns-in_default : goal.returns-in_default
returns-in_default g c =
    let files = g.S.Store.files c.args.store.now in
    let same : g.S.Store.files c.keep_line_separate.new.store ≡ files = c.keep_line_separate.ensures.same ∙ c.load_slaves.ensures.same ∙ c.load_line.ensures.same in
    record {
      given = tt;
      count = tt;
      separate = tt;
      refused = (
        c.in_ok-line.line,
        c.in_ok-line.ensures.line,
        is_there files (g.S.Store.files c.keep_line_separate.new.store) (string_bytes c.in_ok-line.line.journal) c.as_str.result.now c.in_ok-look.field-0 same c.as_str.ensures.value c.in_default.not-Absent c.in_ok-look.ensures.entry,
      );
      same = c.note.ensures.same ∙ c.look.ensures.same ∙ same;
    }
