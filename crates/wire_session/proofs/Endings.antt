-- How the work on a line on a wire ends: what was written before it, and what is told after it.
use Rattle.std.proofs.Common.{◌≡◌, Result, Ok, Err, IsErrAnd, inl, inr, refl, sym, subst, ◌∙◌}
use Rattle.std.specs.Prelude.{⊤, IfOk, IsErr}
use Rattle.std.proofs.lemmas.Result.{IfOk-weaker}
use Rattle.station_text.specs.declared.line_file.LineFile.{LineFile}
use Rattle.station_files.specs.Files.{Known, ChangesAmong}
use Rattle.station_line.specs.Site.{files_of}
use Rattle.wire_faults.specs.declared.faults.WireFault.{WireFault}
use Rattle.wire_faults.specs.Faults.{IsOfStream}
use Rattle.wire_session.specs.Ending.{EndsOpened}
use Rattle.wire_session.specs.Reporting.{IsExplained, IsReported}

-- ---- the files of the line are opened

-- the work follows
pub ends_after_open : {T : Type 0} (saves says : T → Type 0) (result : Result T WireFault) (old mid new : Known) (line : LineFile)
    → ChangesAmong old mid (files_of line) → ((value : T) → saves value → says value) → ChangesAmong mid new (files_of line) → IfOk result saves
    → EndsOpened says result old new line
ends_after_open saves says result old mid new line opened follows others saved =
    record { others = λ other absent. others other absent ∙ opened other absent; saved = IfOk-weaker result saves says follows saved }

-- a fault came after it, before the work
pub opened_refused : {T : Type 0} (saves : T → Type 0) (result : Result T WireFault) (fault : WireFault) (old new : Known) (line : LineFile)
    → ChangesAmong old new (files_of line) → result ≡ Err fault → EndsOpened saves result old new line
opened_refused {T} saves result fault old new line others is =
    subst (λ (r : Result T WireFault). EndsOpened saves r old new line) (sym is) (record { others = others; saved = tt })

-- ---- what is told after the work

-- why the line has stopped
ends_explained : {T : Type 0} (saves : T → Type 0) (ended result : Result T WireFault) (old new : Known) (line : LineFile)
    → IsExplained ended result → EndsOpened saves ended old new line → EndsOpened saves result old new line
ends_explained {T} saves ended result old new line (inl is) ends =
    subst (λ (x : Result T WireFault). EndsOpened saves x old new line) (sym is) ends
ends_explained {T} saves (Ok value) result old new line (inr never) ends = absurd never
ends_explained {T} saves (Err fault) (Ok value) old new line (inr never) ends = absurd never
ends_explained {T} saves (Err fault) (Err reported) old new line (inr stream) ends = record { others = ends.others; saved = tt }

-- a stream failed after it
ends_unprinted : {T : Type 0} (saves : T → Type 0) (ended result : Result T WireFault) (old new : Known) (line : LineFile)
    → IsErrAnd result IsOfStream → EndsOpened saves ended old new line → EndsOpened saves result old new line
ends_unprinted saves ended (Ok value) old new line failed ends = absurd failed
ends_unprinted saves ended (Err fault) old new line failed ends = record { others = ends.others; saved = tt }

ends_reported : {T : Type 0} (saves : T → Type 0) (ended result : Result T WireFault) (old new : Known) (line : LineFile)
    → IsReported ended result → EndsOpened saves ended old new line → EndsOpened saves result old new line
ends_reported {T} saves ended result old new line (inl is) ends =
    subst (λ (x : Result T WireFault). EndsOpened saves x old new line) (sym is) ends
ends_reported {T} saves ended result old new line (inr (was, failed)) ends = ends_unprinted saves ended result old new line failed ends

-- the reports change no file
pub ends_as_reported : {T : Type 0} (saves : Known → T → Type 0) (ended explained result : Result T WireFault) (old mid new : Known) (line : LineFile)
    → new ≡ mid → IsExplained ended explained → IsReported explained result → EndsOpened (saves mid) ended old mid line
    → EndsOpened (saves new) result old new line
ends_as_reported saves ended explained result old mid new line same explains reported ends =
    let P : Known → Type 0 = λ files. EndsOpened (saves files) ended old files line in
    ends_reported (saves new) explained result old new line reported
    (ends_explained (saves new) ended explained old new line explains (subst P (sym same) ends))

-- a report after another one
pub reported_twice : {T : Type 0} (ended reported result : Result T WireFault) → IsReported ended reported → IsReported reported result → IsReported ended result
reported_twice {T} ended reported result (inl same) later = subst (λ (it : Result T WireFault). IsReported it result) same later
reported_twice {T} ended reported result (inr both) (inl same) = inr (both.0, subst (λ (it : Result T WireFault). IsErrAnd it IsOfStream) (sym same) both.1)
reported_twice {T} ended reported result (inr both) (inr later) = inr (both.0, later.1)

-- a fault stays one, and one of a file or of memory stays such a one
reported_stays : {T : Type 0} (P : WireFault → Type 0) (explained result : Result T WireFault) → ((fault : WireFault) → IsOfStream fault → P fault)
    → IsReported explained result → IsErrAnd explained P → IsErrAnd result P
reported_stays {T} P explained result of_stream (inl same) failed = subst (λ (r : Result T WireFault). IsErrAnd r P) (sym same) failed
reported_stays P explained (Ok value) of_stream (inr both) failed = absurd both.1
reported_stays P explained (Err fault) of_stream (inr both) failed = of_stream fault both.1

pub stream_stays : {T : Type 0} (ended explained result : Result T WireFault) → IsExplained ended explained → IsReported explained result
    → IsErrAnd ended IsOfStream → IsErrAnd result IsOfStream
stream_stays {T} ended explained result explains reports failed =
    reported_stays IsOfStream explained result (λ fault stream. stream) reports (first ended explained explains failed)
  where
    first : (ended explained : Result T WireFault) → IsExplained ended explained → IsErrAnd ended IsOfStream → IsErrAnd explained IsOfStream
    first ended explained (inl same) failed = subst (λ (r : Result T WireFault). IsErrAnd r IsOfStream) (sym same) failed
    first (Ok value) explained (inr never) failed = absurd failed
    first (Err fault) (Ok value) (inr never) failed = absurd never
    first (Err fault) (Err other) (inr stream) failed = stream failed

pub fault_stays : {T : Type 0} (ended explained result : Result T WireFault) → IsExplained ended explained → IsReported explained result → IsErr ended
    → IsErr result
fault_stays {T} ended explained result explains reports failed =
    is_fault result (reported_stays (λ fault. ⊤) explained result (λ fault stream. tt) reports (first ended explained explains failed))
  where
    first : (ended explained : Result T WireFault) → IsExplained ended explained → IsErr ended → IsErrAnd explained (λ fault. ⊤)
    first (Ok value) explained explains failed = absurd cc
    first (Err fault) explained (inl same) failed = subst (λ (r : Result T WireFault). IsErrAnd r (λ fault. ⊤)) (sym same) tt
    first (Err fault) (Ok value) (inr never) failed = absurd never
    first (Err fault) (Err other) (inr stream) failed = tt

    is_fault : (result : Result T WireFault) → IsErrAnd result (λ fault. ⊤) → IsErr result
    is_fault (Ok value) never = absurd never
    is_fault (Err fault) some = refl
