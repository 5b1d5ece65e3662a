use Rattle.std.proofs.Common.{◌∙◌, arith, inl, inr, subst}
use Rattle.station_files.specs.Faults.{IsOfLock}
use Rattle.station_files.specs.Files.{Known}
use Rattle.station_files.specs.LineFiles.{names_of, RefusesSlaves}
use Rattle.station_files.proofs.Loaded.{handed_on}
use Rattle.station_line.specs.Refusals.{RefusesSession}
use Rattle.station_line.proofs.Opened.{loads, old-by}
use Rattle.station_line.proofs.Validated.{validated_by}
use Rattle.station_line.proofs.Refused.{handed_by, journal_unread, lock_refused, plant_refused, same_refused}
use Rattle.station_line.proofs.session.load_session.Goals as goal

pub returns-clause-loaded : goal.returns-clause-loaded
returns-clause-loaded g c =
    let line = c.in_ok-line.line in
    let slaves = c.in_ok-slaves.slaves in
    let count = c.in_ok-slaves.ensures.count in
    let of_slaves = slaves.ok.0 in
    let of_images = line.images.ok.0 in
    loads (g.S.Store.files c.args.store.now) (g.S.Store.files c.lock.new.self) (g.S.Store.files c.load_slaves.new.store) c.args.name.now line slaves.items c.in_ok-journal.journal.items c.in_ok-site.site
    c.in_ok-line.ensures.line (c.lock.ensures.same ∙ c.load_line.ensures.same) c.in_ok-slaves.ensures.slaves c.load_slaves.ensures.same (rw c.as_str-2.ensures.value at c.in_ok-journal.ensures.bytes) (rw c.deref-4.ensures.value at c.in_ok-site.ensures)
    (omega (arith, count, of_slaves, of_images))

pub returns-clause-old : goal.returns-clause-old
returns-clause-old g c = old-by c.in_ok-slaves.slaves.items c.in_ok-journal.journal.items c.in_ok-site.site c.is_old-is_old.result (rw c.deref-4.ensures.value at c.in_ok-site.ensures) (rw c.deref.ensures.value at c.is_old-is_old.ensures)

pub returns-clause-validated : goal.returns-clause-validated
returns-clause-validated g c =
    validated_by c.in_ok-slaves.slaves.items c.in_ok-journal.journal.items c.in_ok-site.site c.in_ok-refusal.refusal (rw c.deref-4.ensures.value at c.in_ok-site.ensures)
    (rw (c.deref-2.ensures.value, c.deref-3.ensures.value) at c.in_ok-refusal.ensures.validated)

pub returns-in_err-line-clause-refused : goal.returns-in_err-line-clause-refused
returns-in_err-line-clause-refused g c =
    let files = g.S.Store.files c.args.store.now in
    let fault = c.in_err-line.field-0.0 in
    handed_on (RefusesSession files g.S.Store.leads c.args.name.now) c.from_residual.result fault c.from_residual.ensures.1
    (plant_refused files g.S.Store.leads c.args.name.now fault (inl c.in_err-line.ensures.refused))

pub returns-in_err-lock-clause-refused : goal.returns-in_err-lock-clause-refused
returns-in_err-lock-clause-refused g c =
    let files = g.S.Store.files c.args.store.now in
    let why = c.in_err-lock.field-0.0 in
    handed_by (RefusesSession files g.S.Store.leads c.args.name.now) (IsOfLock why) c.from_residual-in_err-lock.result
    (λ fault is. lock_refused files g.S.Store.leads c.args.name.now c.in_ok-line.line why fault c.in_ok-line.ensures.line is) c.from_residual-in_err-lock.ensures.1

pub returns-in_err-slaves-clause-refused : goal.returns-in_err-slaves-clause-refused
returns-in_err-slaves-clause-refused g c =
    let files = g.S.Store.files c.args.store.now in
    let fault = c.in_err-slaves.field-0.0 in
    let P : Known → Type 0 = λ read. RefusesSlaves read (names_of c.in_ok-line.line) fault in
    handed_on (RefusesSession files g.S.Store.leads c.args.name.now) c.from_residual-in_err-slaves.result fault c.from_residual-in_err-slaves.ensures.1
    (plant_refused files g.S.Store.leads c.args.name.now fault (inr (c.in_ok-line.line, c.in_ok-line.ensures.line, subst P (c.lock.ensures.same ∙ c.load_line.ensures.same) c.in_err-slaves.ensures.refused)))

pub returns-in_err-journal-clause-refused : goal.returns-in_err-journal-clause-refused
returns-in_err-journal-clause-refused g c =
    let files = g.S.Store.files c.args.store.now in
    let fault = c.in_err-journal.field-0.0 in
    handed_on (RefusesSession files g.S.Store.leads c.args.name.now) c.from_residual-in_err-journal.result fault c.from_residual-in_err-journal.ensures.1
    (journal_unread files (g.S.Store.files c.load_slaves.new.store) g.S.Store.leads c.args.name.now _ c.in_ok-line.line fault c.in_ok-line.ensures.line
    (c.load_slaves.ensures.same ∙ c.lock.ensures.same ∙ c.load_line.ensures.same) c.as_str-2.ensures.value c.in_err-journal.ensures.refused)

pub returns-in_err-keep_line_separate-clause-refused : goal.returns-in_err-keep_line_separate-clause-refused
returns-in_err-keep_line_separate-clause-refused g c =
    let files = g.S.Store.files c.args.store.now in
    let fault = c.in_err-keep_line_separate.field-0.0 in
    handed_on (RefusesSession files g.S.Store.leads c.args.name.now) c.from_residual-in_err-keep_line_separate.result fault c.from_residual-in_err-keep_line_separate.ensures.1
    (same_refused files g.S.Store.leads c.args.name.now c.in_ok-line.line fault c.in_ok-line.ensures.line c.in_err-keep_line_separate.ensures.refused)
