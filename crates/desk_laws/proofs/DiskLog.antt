-- The actions that the book hands out for the disk, and its log.
use Rattle.std.proofs.Common.{◌≡◌, ◌⊎◌, ◌∙◌, inl, inr, ℕ, ◌<◌, Bool, true, false, ◌∷◌, List, length, refl, sym, ap, subst, Option, Some, None, Ok, Err}
use Rattle.std.specs.Prelude.{is_some, fold, if◌then◌else◌}
use Rattle.book_model.specs.declared.next.DiskNext.{DiskNext}
use Rattle.book_model.specs.declared.next.DiskNext.TheVariants as disk
use Rattle.book_model.specs.declared.next.RomNext.{RomNext}
use Rattle.book_model.specs.declared.next.RomOutcome.{RomOutcome}
use Rattle.book_model.specs.Book.{Book, Doing, Resting, Payload, PayloadSync, OpenGate, OpenSync, CloseGate, CloseSync, FarGate, Mark, MarkSync, Version, VersionSync}
use Rattle.book_model.specs.DiskSteps.{action_of, doing_next, disk_next, went_on, disk_done}
use Rattle.book_model.specs.RomSteps.{rom_next, rom_done}
use Rattle.book_model.specs.Events.{in_progress, rested}
use Rattle.desk_book.specs.declared.call.Call.{Call}
use Rattle.desk_book.specs.declared.call.Call.TheVariants.{Submitted, DiskAsked, DiskReported, SlaveAsked, SlaveReported, PlanAsked, Finished}
use Rattle.desk_book.specs.Asking.{is_disk_job}
use Rattle.desk_book.specs.Calls.{after, AreAnswered, IsAnswered}
use Rattle.desk_book.specs.Logs.{DiskEntry, disk_noted, with_disk_answer}
use Rattle.desk_book.proofs.LogLaws.{with-disk-job, with-disk-rest}
use Rattle.desk_book.proofs.OutLaws.{Next, rests, issues, settles, next-of, SlaveGoes, back-of, no-action}
use Rattle.desk_laws.proofs.LogAfter.{Notes, none, job, reported, afterwards}

-- ---- what is handed out

-- nothing, or an action where nothing was out and the book has no fault
pub data Handed (book : Book) : Type 0 where
  nothing : (answer : DiskNext) → is_disk_job answer ≡ false → disk_next book ≡ (answer, book) → Handed book
  hands : (action : DiskNext) → book.is_handed_out ≡ false → is_some book.fault ≡ false → is_disk_job action ≡ true → in_progress (disk_next book).1 ≡ Some action → (disk_next book).0 ≡ action → (disk_next book).1.is_handed_out ≡ true
      → Handed book

abbrev is_job : Option DiskNext → Bool
is_job None = true
is_job (Some action) = is_disk_job action

asks-job : (book : Book) (doing : Doing) → is_job (action_of book doing) ≡ true
asks-job book Resting = refl
asks-job book (Payload place entries) = refl
asks-job book (PayloadSync place entries) = refl
asks-job book (OpenGate place entries) = refl
asks-job book (OpenSync place entries) = refl
asks-job book CloseGate = refl
asks-job book CloseSync = refl
asks-job book FarGate = refl
asks-job book Mark = refl
asks-job book MarkSync = refl
asks-job book Version = refl
asks-job book VersionSync = refl

handed-by : (book : Book) (out failed : Bool) (action : Option DiskNext) → book.is_handed_out ≡ out → is_some book.fault ≡ failed → action_of book (doing_next book book.doing) ≡ action → Handed book
handed-by book true failed action o f a = nothing disk.Idle refl (rw o refl)
handed-by book false true action o f a = nothing disk.Stop refl (rw (o, f) refl)
handed-by book false false None o f a = nothing (if book.is_finished then disk.Stop else disk.Idle) (no-action book.is_finished) (rw (o, f, a) refl)
handed-by book false false (Some action) o f a =
    let is : disk_next book ≡ (action, record book { doing = doing_next book book.doing; is_handed_out = true }) = rw (o, f, a) refl in
    hands action o f (ap is_job (sym a) ∙ asks-job book (doing_next book book.doing)) (ap (λ (p : DiskNext × Book). in_progress p.1) is ∙ a) (ap (λ (p : DiskNext × Book). p.0) is) (ap (λ (p : DiskNext × Book). p.1.is_handed_out) is)

pub handed-of : (book : Book) → Handed book
handed-of book = handed-by book book.is_handed_out (is_some book.fault) (action_of book (doing_next book book.doing)) refl refl refl

-- an action that has returned is no longer out
went-rests : (book : Book) (doing : Doing) → (went_on (rested book) doing).is_handed_out ≡ false
went-rests book Resting = refl
went-rests book (Payload place entries) = refl
went-rests book (PayloadSync place entries) = refl
went-rests book (OpenGate place entries) = refl
went-rests book (OpenSync place entries) = refl
went-rests book CloseGate = refl
went-rests book CloseSync = refl
went-rests book FarGate = refl
went-rests book Mark = refl
went-rests book MarkSync = refl
went-rests book Version = refl
went-rests book VersionSync = refl

pub done-rests : (book : Book) → book.is_handed_out ≡ true → (disk_done book (Ok tt)).is_handed_out ≡ false
done-rests book out = rw out (went-rests book book.doing)

-- ---- a call that is about something else

pub record KeepsDisk (book later : Book) : Type 0 where
  pub out : later.is_handed_out ≡ book.is_handed_out
  pub action : in_progress later ≡ in_progress book
  pub failed : is_some book.fault ≡ true → is_some later.fault ≡ true

keeps-same : (book : Book) → KeepsDisk book book
keeps-same book = record { out = refl; action = refl; failed = λ has. has }

pub asked-keeps : (book : Book) (j : ℕ) → KeepsDisk book (rom_next book j).1
asked-keeps book j = from (next-of book j)
  where
    from : Next book j → KeepsDisk book (rom_next book j).1
    from (rests answer idle is) = subst (λ (p : RomNext × Book). KeepsDisk book p.1) (sym is) (keeps-same book)
    from (issues w others vacant todo within is) = subst (λ (p : RomNext × Book). KeepsDisk book p.1) (sym is) (record { out = refl; action = refl; failed = λ has. has })
    from (settles word value taken unsettled within is) = subst (λ (p : RomNext × Book). KeepsDisk book p.1) (sym is) (record { out = refl; action = refl; failed = λ has. has })

pub reported-keeps : (book : Book) (j : ℕ) (outcome : RomOutcome) → KeepsDisk book (rom_done book j outcome)
reported-keeps book j outcome = from (back-of book j outcome)
  where
    from : (rom_done book j outcome ≡ book) ⊎ SlaveGoes book j (rom_done book j outcome) → KeepsDisk book (rom_done book j outcome)
    from (inl is) = subst (KeepsDisk book) (sym is) (keeps-same book)
    from (inr goes) = subst (KeepsDisk book) (sym goes.is) (record { out = refl; action = refl; failed = goes.failed })

-- ---- its log

abbrev IsHandedOut : Book → Type 0
IsHandedOut book = book.is_handed_out ≡ true

asked-notes : (book : Book) (answer : DiskNext) → answer ≡ (disk_next book).0 → Handed book → Notes (λ (log : List DiskEntry). disk_noted log (DiskAsked answer)) (IsHandedOut book) (IsHandedOut (disk_next book).1)
asked-notes book answer is (nothing rest idle goes) =
    none (λ log. ap (with_disk_answer log) (is ∙ ap (λ (p : DiskNext × Book). p.0) goes) ∙ with-disk-rest log rest idle) (λ now. sym (ap (λ (p : DiskNext × Book). p.1.is_handed_out) goes) ∙ now)
asked-notes book answer is (hands action o f one there goes out) = job action (λ log. ap (with_disk_answer log) (is ∙ goes) ∙ with-disk-job log action one)

disk-notes : (book : Book) (call : Call) → IsAnswered book call → Notes (λ (log : List DiskEntry). disk_noted log call) (IsHandedOut book) (IsHandedOut (after book call))
disk-notes book (Submitted command (Ok number)) is = none (λ log. refl) (λ now. now)
disk-notes book (Submitted command (Err refusal)) is = none (λ log. refl) (λ now. now)
disk-notes book (DiskAsked answer) is = asked-notes book answer is (handed-of book)
disk-notes book (DiskReported outcome) is = reported outcome is (λ log. refl)
disk-notes book (SlaveAsked j answer) is = none (λ log. refl) (λ now. sym (asked-keeps book j).out ∙ now)
disk-notes book (SlaveReported j outcome) is = none (λ log. refl) (λ now. sym (reported-keeps book j outcome).out ∙ now)
disk-notes book (PlanAsked answer) is = none (λ log. refl) (λ now. now)
disk-notes book Finished is = none (λ log. refl) (λ now. now)

pub disk-afterwards : (book : Book) (calls : List Call) (entry : DiskEntry) (log : List DiskEntry) → AreAnswered book calls → (book.is_handed_out ≡ true → 0 < length log) → fold disk_noted (entry ∷ log) calls ≡ entry ∷ fold disk_noted log calls
disk-afterwards book calls entry log all has = afterwards entry disk_noted IsHandedOut disk-notes book calls log all has
