-- The laws of the disk, whatever form the journal has.
use Rattle.std.proofs.Common.{◌≡◌, ℕ, Bool, true, false, List, refl, sym, ◌∙◌, ap, subst, Option, Some, None}
use Rattle.std.specs.Prelude.{Ok, is_some}
use Rattle.sii_words.specs.declared.run.Run.{Run}
use Rattle.jrn_format.specs.declared.journal.Form.{Form}
use Rattle.jrn_format.specs.declared.journal.Form.TheVariants.{One, Two, Moving}
use Rattle.site_core.specs.Disk.{Disk, StopImage}
use Rattle.book_model.specs.declared.fault.Fault.{Fault}
use Rattle.book_model.specs.declared.next.DiskNext.{DiskNext}
use Rattle.book_model.specs.Book.{Book, Doing, Resting, Payload, PayloadSync, OpenGate, OpenSync, CloseGate, CloseSync, FarGate, Mark, MarkSync, Version, VersionSync, all_cells, with_fault}
use Rattle.book_model.specs.DiskSteps.{action_of, doing_next, disk_next, went_on, disk_done}
use Rattle.book_model.specs.Machine.{Machine}
use Rattle.book_model.specs.Kept.{Kept}
use Rattle.book_model.specs.Plants.{MayHoldAll}
use Rattle.book_model.specs.Fits.{BookFits}
use Rattle.book_model.specs.Frame.{JournalFrame, IsJournalFrame}
use Rattle.book_model.specs.Events.{begun_on, ended_on, FailsOn, in_progress, rested}
use Rattle.book_model.specs.Keeping.{IsOfBook, IsOfLine}
use Rattle.book_model.proofs.CarryLaws.{Carries, carry}
use Rattle.book_model.proofs.DoneLaws.{disk-ends, disk-fails, doing-faulted}
use Rattle.book_model.proofs.NextLaws.{disk-begins}
use Rattle.book_model.proofs.KeptLaws as two
use Rattle.book_model.specs.OldDoing.{OldFits, FormFits, JournalFits}
use Rattle.book_model.specs.OldQueue.{FormCanBegin, JournalCanBegin}
use Rattle.book_model.proofs.OldCarryLaws.{old-goes}
use Rattle.book_model.proofs.OldBeginLaws.{old-begins}
use Rattle.book_model.proofs.OldDoneLaws.{old-ends, old-fails}
use Rattle.book_model.proofs.OldKeptLaws.{kept}

-- ---- parts of the book that the disk has nothing to do with

-- a later book has the same journal and is doing the same
pub record SameJournal (book later : Book) : Type 0 where
  pub carries : Carries book later
  pub form : later.form ≡ book.form
  pub doing : later.doing ≡ book.doing
  pub out : later.is_handed_out ≡ book.is_handed_out
  pub failed : is_some later.fault ≡ is_some book.fault

old-same : (frame : JournalFrame) (book later : Book) (disk : Disk) → Carries book later → later.form ≡ book.form → later.doing ≡ book.doing → OldFits frame book disk → OldFits frame later disk
old-same frame book later disk c form doing fits = old-goes frame book later disk disk (record { form = form; halves = c.halves; retires = c.retires }) fits book.doing doing fits.holds

form-same : (form : Form) (frame : JournalFrame) (book later : Book) (disk : Disk) → SameJournal book later → FormFits form frame book disk → FormFits form frame later disk
form-same One frame book later disk s fits = old-same frame book later disk s.carries s.form s.doing fits
form-same Moving frame book later disk s fits = old-same frame book later disk s.carries s.form s.doing fits
form-same Two frame book later disk s fits =
    rw (s.doing, s.out, s.failed) (carry frame book later disk s.carries book.is_handed_out (is_some book.fault) book.doing fits)

pub journal-same : (frame : JournalFrame) (book later : Book) (disk : Disk) → SameJournal book later → JournalFits frame book disk → JournalFits frame later disk
journal-same frame book later disk s fits = subst (λ (form : Form). FormFits form frame later disk) (sym s.form) (form-same book.form frame book later disk s fits)

-- a fault that isn't the disk's
pub journal-faulted : (frame : JournalFrame) (book : Book) (disk : Disk) (fault : Fault) → JournalFits frame book disk → JournalFits frame (with_fault book fault) disk
journal-faulted frame book disk fault fits = in_form book.form fits
  where
    later : Book
    later = with_fault book fault

    carries : Carries book (with_fault book fault)
    carries = record { halves = refl; appends = λ place entries a. a; retires = λ r. r }

    in_form : (form : Form) → FormFits form frame book disk → FormFits form frame (with_fault book fault) disk
    in_form One f = old-same frame book (with_fault book fault) disk carries refl refl f
    in_form Moving f = old-same frame book (with_fault book fault) disk carries refl refl f
    in_form Two f =
        doing-faulted frame (with_fault book fault) book.is_handed_out (is_some book.fault) disk book.doing
        (carry frame book (with_fault book fault) disk carries book.is_handed_out (is_some book.fault) book.doing f)

-- ---- a beginning

-- what is handed out leaves the form as it is
next-form : (book : Book) → (disk_next book).1.form ≡ book.form
next-form book = by_out book.is_handed_out refl
  where
    by_action : (action : Option DiskNext) → book.is_handed_out ≡ false → is_some book.fault ≡ false → action_of book (doing_next book book.doing) ≡ action → (disk_next book).1.form ≡ book.form
    by_action None out ok is = rw (out, ok, is) refl
    by_action (Some action) out ok is = rw (out, ok, is) refl

    by_fault : (failed : Bool) → book.is_handed_out ≡ false → is_some book.fault ≡ failed → (disk_next book).1.form ≡ book.form
    by_fault true out ok = rw (out, ok) refl
    by_fault false out ok = by_action (action_of book (doing_next book book.doing)) out ok refl

    by_out : (out : Bool) → book.is_handed_out ≡ out → (disk_next book).1.form ≡ book.form
    by_out true out = rw out refl
    by_out false out = by_fault (is_some book.fault) out refl

form-begins : (form : Form) (frame : JournalFrame) (book : Book) (disk : Disk) → FormCanBegin form frame book → FormFits form frame book disk → FormFits form frame (disk_next book).1 (begun_on (Some (disk_next book).0) disk)
form-begins One frame book disk can fits = old-begins frame book disk can fits
form-begins Two frame book disk can fits = disk-begins frame book disk can fits
form-begins Moving frame book disk can fits = old-begins frame book disk can fits

pub journal-begins : (frame : JournalFrame) (book : Book) (disk : Disk) → JournalCanBegin frame book → JournalFits frame book disk → JournalFits frame (disk_next book).1 (begun_on (Some (disk_next book).0) disk)
journal-begins frame book disk can fits =
    subst (λ (form : Form). FormFits form frame (disk_next book).1 (begun_on (Some (disk_next book).0) disk)) (sym (next-form book)) (form-begins book.form frame book disk can fits)

-- ---- an end

stays-two : (book : Book) (doing : Doing) → book.form ≡ Two → (went_on book doing).form ≡ Two
stays-two book Resting is = is
stays-two book (Payload place entries) is = is
stays-two book (PayloadSync place entries) is = is
stays-two book (OpenGate place entries) is = is
stays-two book (OpenSync place entries) is = is
stays-two book CloseGate is = is
stays-two book CloseSync is = is
stays-two book FarGate is = is
stays-two book Mark is = is
stays-two book MarkSync is = is
stays-two book Version is = is
stays-two book VersionSync is = refl

form-ends : (form : Form) (frame : JournalFrame) (book : Book) (disk : Disk) → book.form ≡ form → IsJournalFrame frame → book.capacity ≡ frame.capacity → book.is_handed_out ≡ true → FormFits form frame book disk
    → JournalFits frame (disk_done book (Ok tt)) (ended_on (in_progress book) disk)
form-ends One frame book disk is is_frame same out fits = old-ends frame book disk is_frame same out fits
form-ends Moving frame book disk is is_frame same out fits = old-ends frame book disk is_frame same out fits
form-ends Two frame book disk is is_frame same out fits =
    let later = disk_done book (Ok tt) in
    let done : disk_done book (Ok tt) ≡ went_on (rested book) book.doing = rw out refl in
    let form : later.form ≡ Two = ap (λ (b : Book). b.form) done ∙ stays-two (rested book) book.doing is in
    subst (λ (f : Form). FormFits f frame later (ended_on (in_progress book) disk)) (sym form) (disk-ends frame book disk same out fits)

pub journal-ends : (frame : JournalFrame) (book : Book) (disk : Disk) → IsJournalFrame frame → book.capacity ≡ frame.capacity → book.is_handed_out ≡ true → JournalFits frame book disk
    → JournalFits frame (disk_done book (Ok tt)) (ended_on (in_progress book) disk)
journal-ends frame book disk is_frame same out fits = form-ends book.form frame book disk refl is_frame same out fits

form-fails : (form : Form) (frame : JournalFrame) (book : Book) (disk new : Disk) (fault : Fault) → book.capacity ≡ frame.capacity → book.is_handed_out ≡ true → FormFits form frame book disk → FailsOn (in_progress book) disk new
    → FormFits form frame (with_fault (rested book) fault) new
form-fails One frame book disk new fault same out fits fails = old-fails frame book disk new fault same out fits fails
form-fails Two frame book disk new fault same out fits fails = disk-fails frame book disk new fault same out fits fails
form-fails Moving frame book disk new fault same out fits fails = old-fails frame book disk new fault same out fits fails

pub journal-fails : (frame : JournalFrame) (book : Book) (disk new : Disk) (fault : Fault) → book.capacity ≡ frame.capacity → book.is_handed_out ≡ true → JournalFits frame book disk → FailsOn (in_progress book) disk new
    → JournalFits frame (with_fault (rested book) fault) new
journal-fails frame book disk new fault same out fits fails = form-fails book.form frame book disk new fault same out fits fails

-- ---- a power cut

pub journal-kept : (frame : JournalFrame) (book : Book) (m : Machine) (gone : List Run) (disk : Disk) (image : List ℕ) (left : List (List ℕ)) → IsOfLine frame book → IsOfBook book m → BookFits book gone → JournalFits frame book disk
    → MayHoldAll book.words (all_cells book.slaves) left → StopImage disk image → Kept image left m
journal-kept frame book m gone disk image left line of fits journal may stop = in_form book.form journal
  where
    in_form : (form : Form) → FormFits form frame book disk → Kept image left m
    in_form One old = kept frame book m gone disk image left line of fits may stop old.halves book.doing old.holds
    in_form Two f = two.kept frame book m gone disk image left line of fits may stop book.doing book.is_handed_out (is_some book.fault) f
    in_form Moving old = kept frame book m gone disk image left line of fits may stop old.halves book.doing old.holds
