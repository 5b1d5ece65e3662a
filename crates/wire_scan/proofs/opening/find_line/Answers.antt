use Rattle.std.proofs.Common.{◌≡◌, ◌∙◌, ◌⊎◌, string_bytes, subst, sym}
use Rattle.station_files.specs.Files.{Known}
use Rattle.station_files.specs.FileNames.{RefusesLineNames}
use Rattle.station_files.specs.LineFiles.{names_of}
use Rattle.wire_faults.specs.declared.faults.WireFault.{WireFault}
use Rattle.wire_faults.specs.declared.faults.WireFault.TheVariants.{Station}
use Rattle.wire_scan.specs.Opening.{IsOfWire, RefusesFound, RefusesImages, RefusesLock, RefusesRead}
use Rattle.wire_scan.specs.Opening.RefusesFound.{by_line_file, by_lock, by_image_file, by_wire, by_reading}
use Rattle.wire_scan.proofs.Refusing.{handed_by, of_found}
use Rattle.wire_scan.proofs.opening.find_line.Goals as goal

pub returns-in_err-line-clause-refused : goal.returns-in_err-line-clause-refused
returns-in_err-line-clause-refused g c =
    let fault = c.in_err-line.field-0.0 in
    handed_by (RefusesFound (g.S.Store.files c.args.store.now) g.S.Store.leads c.args.name.now c.args.asked.mends) (λ given. given ≡ Station fault) c.from_residual.result
    (λ given is. by_line_file fault is c.in_err-line.ensures.refused) c.from_residual.ensures.1

pub returns-in_err-lock-clause-refused : goal.returns-in_err-lock-clause-refused
returns-in_err-lock-clause-refused g c =
    let fault = c.in_err-lock.field-0.0 in
    let line = c.in_ok-line.line in
    let P : Known → Type 0 = λ files. RefusesLock files (string_bytes line.journal) fault ⊎ RefusesLineNames g.S.Store.leads line c.args.name.now fault in
    handed_by (RefusesFound (g.S.Store.files c.args.store.now) g.S.Store.leads c.args.name.now c.args.asked.mends) (λ given. given ≡ Station fault) c.from_residual-in_err-lock.result
    (λ given is. by_lock line c.in_ok-line.ensures.line fault is (subst P c.load_line.ensures.same c.in_err-lock.ensures.refused)) c.from_residual-in_err-lock.ensures.1

pub returns-in_err-images-clause-refused : goal.returns-in_err-images-clause-refused
returns-in_err-images-clause-refused g c =
    let fault = c.in_err-images.field-0.0 in
    let line = c.in_ok-line.line in
    let P : Known → Type 0 = λ files. RefusesImages files (names_of line) fault in
    let refused : P (g.S.Store.files c.lock_journal.new.store) = rw c.deref.ensures.value at c.in_err-images.ensures.refused in
    handed_by (RefusesFound (g.S.Store.files c.args.store.now) g.S.Store.leads c.args.name.now c.args.asked.mends) (λ given. given ≡ Station fault) c.from_residual-in_err-images.result
    (λ given is. by_image_file line c.in_ok-line.ensures.line fault is (subst P (c.lock_journal.ensures.same ∙ c.load_line.ensures.same) refused)) c.from_residual-in_err-images.ensures.1

pub returns-in_err-brought-clause-refused : goal.returns-in_err-brought-clause-refused
returns-in_err-brought-clause-refused g c =
    let fault = c.in_err-brought.field-0.0 in
    handed_by (RefusesFound (g.S.Store.files c.args.store.now) g.S.Store.leads c.args.name.now c.args.asked.mends) (λ given. given ≡ fault) c.from_residual-in_err-brought.result
    (λ given is. by_wire c.in_ok-line.line c.in_ok-line.ensures.line (subst IsOfWire (sym is) c.in_err-brought.ensures.failed)) c.from_residual-in_err-brought.ensures.1

pub returns-in-Err-clause-refused : goal.returns-in-Err-clause-refused
returns-in-Err-clause-refused g c =
    let same = c.lock_journal.ensures.same ∙ c.load_line.ensures.same in
    let loaded = rw (c.deref.ensures.value) at c.in_ok-images.ensures.images in
    let refused = rw (c.deref-3.ensures.value) at c.in-Err.ensures.refused in
    of_found (g.S.Store.files c.args.store.now) (g.S.Store.files c.lock_journal.new.store) (g.S.Store.files c.load_images.new.store) g.S.Store.leads c.args.name.now c.args.asked.mends
    c.in_ok-line.line c.in_ok-images.images.items c.in-Err.fault same (c.load_images.ensures.same ∙ same) c.in_ok-line.ensures.line loaded refused
