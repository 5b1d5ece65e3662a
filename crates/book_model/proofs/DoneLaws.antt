-- DiskFits stays true when an action succeeds.
use Rattle.std.proofs.Common.{◌≡◌, ◌≢◌, inl, inr, ℕ, ◌+◌, ◌*◌, Bool, true, false, List, [], ◌∷◌, ◌++◌, length, refl, sym, ◌∙◌, subst, arith}
use Rattle.std.specs.Prelude.{Ok, is_some}
use Rattle.jrn_format.specs.declared.journal.Entry.{Entry}
use Rattle.jrn_format.specs.declared.journal.Spelling.TheVariants.{WithGeneration}
use Rattle.jrn_format.specs.Batch.{spelt_after}
use Rattle.jrn_format.specs.Halves.{Place, InOlder, InNewer, batch_in}
use Rattle.site_core.specs.Disk.{Disk, WriteFailed, written, synced}
use Rattle.book_model.specs.declared.fault.Fault.{Fault}
use Rattle.book_model.specs.Book.{Book, Doing, Resting, Payload, PayloadSync, OpenGate, OpenSync, CloseGate, CloseSync, FarGate, Mark, MarkSync, Version, VersionSync, with_fault, half_at}
use Rattle.book_model.specs.DiskSteps.{place_at, payload_bytes, action_of, went_on, disk_done}
use Rattle.book_model.proofs.FitLaws.{entries-in}
use Rattle.book_model.specs.Frame.{JournalFrame, room, gate_at}
use Rattle.book_model.specs.Phases.{AtRest, HasPayload, HasBatch, HasGate, HasClosing}
use Rattle.book_model.specs.Doing.{OpensGate, DoingFits, DiskFits}
use Rattle.book_model.specs.Events.{ended_on, FailsOn, in_progress, rested}
use Rattle.book_model.proofs.AppendLaws.{payload-done, payload-failed, payload-synced, gate-done, gate-failed, gate-synced, close-done, close-failed, close-synced}

-- a batch's place, as a file offset
pub place-at : (frame : JournalFrame) (book : Book) (place : Place) → book.capacity ≡ frame.capacity → place_at book place ≡ gate_at frame book.halves place
place-at frame book InOlder same = rw same refl
place-at frame book InNewer same = rw same refl

pub half-at : (frame : JournalFrame) (book : Book) (half : ℕ) → book.capacity ≡ frame.capacity → half_at book half ≡ 8 + half * room frame
half-at frame book half same = rw same refl

not_open : (n : ℕ) → n ≡ 0 → n ≢ 0xA5
not_open n none is = absurd (omega arith)

opens-later : (frame : JournalFrame) (book : Book) (place : Place) (entries : List Entry) (failed : Bool) (disk : Disk) → HasBatch frame book.halves place entries disk → OpensGate frame book place entries false failed disk
opens-later frame book place entries false disk n = n
opens-later frame book place entries true disk n = inl n

-- ---- success

went : (frame : JournalFrame) (book : Book) (disk : Disk) → book.capacity ≡ frame.capacity → (doing : Doing) → book.doing ≡ doing → DoingFits frame book doing true (is_some book.fault) disk
    → DiskFits frame (went_on (rested book) doing) (ended_on (action_of book doing) disk)
went frame book disk same Resting is f = subst (λ (d : Doing). DoingFits frame (rested book) d false (is_some book.fault) disk) (sym is) f
went frame book disk same (Payload place entries) is f =
    let bytes = payload_bytes book place entries in (
      f.1,
      subst (λ (n : ℕ). HasPayload frame book.halves place bytes (written disk (n + 1) bytes)) (sym (place-at frame book place same))
          (payload-done frame book.halves place f.2.0 bytes disk f.2.1.1 (sym f.2.1.0)),
    )
went frame book disk same (PayloadSync place entries) is f =
    let batch = batch_in book.halves place entries in (
      f.0,
      opens-later frame book place entries (is_some book.fault) (synced disk) (payload-synced frame book.halves place entries disk f.0.can
          (subst (λ (l : List Entry). HasPayload frame book.halves place (spelt_after WithGeneration batch.generation l ++ 0 ∷ []) disk) (sym (entries-in book.halves place entries)) f.1)),
    )
went frame book disk same (OpenGate place entries) is f = (
  f.0,
  subst (λ (n : ℕ). HasGate frame book.halves place entries 0xA5 (written disk n (0xA5 ∷ []))) (sym (place-at frame book place same))
      (gate-done frame book.halves place entries f.1.0 0xA5 disk f.1.1),
)
went frame book disk same (OpenSync place entries) is f = gate-synced frame book.halves place entries disk f.1
went frame book disk same CloseGate is f =
    (f.1, subst (λ (n : ℕ). HasClosing frame book.halves 0 (written disk n (0 ∷ []))) (sym (half-at frame book book.halves.at same)) (close-done frame book.halves f.2.0 0 disk f.2.1))
went frame book disk same CloseSync is f = close-synced frame book.halves 0 disk f.1 (not_open 0 refl)
went frame book disk same FarGate is f = absurd f
went frame book disk same Mark is f = absurd f
went frame book disk same MarkSync is f = absurd f
went frame book disk same Version is f = absurd f
went frame book disk same VersionSync is f = absurd f

done-is : (book : Book) → book.is_handed_out ≡ true → disk_done book (Ok tt) ≡ went_on (rested book) book.doing
done-is book out = rw out refl

pub disk-ends : (frame : JournalFrame) (book : Book) (disk : Disk) → book.capacity ≡ frame.capacity → book.is_handed_out ≡ true → DiskFits frame book disk
    → DiskFits frame (disk_done book (Ok tt)) (ended_on (in_progress book) disk)
disk-ends frame book disk same out fits =
    subst (λ (b : Book). DiskFits frame b (ended_on (in_progress book) disk)) (sym (done-is book out))
    (went frame book disk same book.doing refl (subst (λ (o : Bool). DoingFits frame book book.doing o (is_some book.fault) disk) out fits))

-- ---- after a fault

failed-doing : (frame : JournalFrame) (book : Book) (failed : Bool) (disk new : Disk) → book.capacity ≡ frame.capacity → (doing : Doing) → DoingFits frame book doing true failed disk → FailsOn (action_of book doing) disk new
    → DoingFits frame book doing false true new
failed-doing frame book failed disk new same Resting f fails = subst (AtRest frame book.halves) (sym fails) f
failed-doing frame book failed disk new same (Payload place entries) f fails =
    let start = place-at frame book place same in
    let fails_there : WriteFailed disk (gate_at frame book.halves place + 1) (length f.2.0) new =
    subst (λ (n : ℕ). WriteFailed disk (gate_at frame book.halves place + 1) n new) (sym f.2.1.0) (subst (λ (n : ℕ). WriteFailed disk (n + 1) (length (payload_bytes book place entries)) new) start fails) in
    let p = payload-failed frame book.halves place f.2.0 disk new f.2.1.1 fails_there in
    (tt, f.1, (p.0, (p.1 ∙ f.2.1.0, p.2)))
failed-doing frame book failed disk new same (PayloadSync place entries) f fails = (f.0, subst (HasPayload frame book.halves place (payload_bytes book place entries)) (sym fails) f.1)
failed-doing frame book failed disk new same (OpenGate place entries) f fails =
    (f.0, inr (gate-failed frame book.halves place entries f.1.0 disk new f.1.1 (subst (λ (n : ℕ). WriteFailed disk n 1 new) (place-at frame book place same) fails)))
failed-doing frame book failed disk new same (OpenSync place entries) f fails = (f.0, subst (HasGate frame book.halves place entries 0xA5) (sym fails) f.1)
failed-doing frame book failed disk new same CloseGate f fails =
    (tt, f.1, close-failed frame book.halves f.2.0 disk new f.2.1 (subst (λ (n : ℕ). WriteFailed disk n 1 new) (half-at frame book book.halves.at same) fails))
failed-doing frame book failed disk new same CloseSync f fails = (f.0, subst (HasClosing frame book.halves 0) (sym fails) f.1)
failed-doing frame book failed disk new same FarGate f fails = absurd f
failed-doing frame book failed disk new same Mark f fails = absurd f
failed-doing frame book failed disk new same MarkSync f fails = absurd f
failed-doing frame book failed disk new same Version f fails = absurd f
failed-doing frame book failed disk new same VersionSync f fails = absurd f

-- a fault of the disk, or a site that stopped
pub disk-fails : (frame : JournalFrame) (book : Book) (disk new : Disk) (fault : Fault) → book.capacity ≡ frame.capacity → book.is_handed_out ≡ true → DiskFits frame book disk → FailsOn (in_progress book) disk new
    → DiskFits frame (with_fault (rested book) fault) new
disk-fails frame book disk new fault same out fits fails =
    failed-doing frame book (is_some book.fault) disk new same book.doing (subst (λ (o : Bool). DoingFits frame book book.doing o (is_some book.fault) disk) out fits) fails

-- ---- a fault that isn't the disk's

pub doing-faulted : (frame : JournalFrame) (book : Book) (out failed : Bool) (disk : Disk) (doing : Doing) → DoingFits frame book doing out failed disk → DoingFits frame book doing out true disk
doing-faulted frame book out failed disk Resting f = f
doing-faulted frame book true failed disk (Payload place entries) f = f
doing-faulted frame book false failed disk (Payload place entries) f = (tt, f.1, f.2)
doing-faulted frame book out failed disk (PayloadSync place entries) f = f
doing-faulted frame book true failed disk (OpenGate place entries) f = f
doing-faulted frame book false true disk (OpenGate place entries) f = f
doing-faulted frame book false false disk (OpenGate place entries) f = (f.0, inl f.1)
doing-faulted frame book out failed disk (OpenSync place entries) f = f
doing-faulted frame book true failed disk CloseGate f = f
doing-faulted frame book false failed disk CloseGate f = (tt, f.1, f.2)
doing-faulted frame book out failed disk CloseSync f = f
doing-faulted frame book out failed disk FarGate f = f
doing-faulted frame book out failed disk Mark f = f
doing-faulted frame book out failed disk MarkSync f = f
doing-faulted frame book out failed disk Version f = f
doing-faulted frame book out failed disk VersionSync f = f
