-- Up stays true when an action on the disk begins, and when one fails.
use Rattle.std.proofs.Common.{◌≡◌, ◌≢◌, ◌⊎◌, inl, inr, ℕ, zero, suc, ◌+◌, ◌≤◌, Bool, true, false, List, [], ◌∷◌, length, drop, refl, sym, ◌∙◌, ap, subst, arith, length-drop, Option, Some, None}
use Rattle.std.specs.Prelude.{is_some, if◌then◌else◌}
use Rattle.std.specs.List.{AllByRecursion}
use Rattle.std.proofs.lemmas.List.{drop-drop}
use Rattle.sii_words.specs.declared.run.Run.{Run}
use Rattle.sii_edit.specs.declared.command.Command.{Command}
use Rattle.jrn_format.specs.declared.journal.Entry.{Entry}
use Rattle.jrn_format.specs.declared.journal.Batch.{Batch}
use Rattle.jrn_format.specs.declared.journal.Form.{Form}
use Rattle.jrn_format.specs.declared.journal.Form.TheVariants.{One, Two, Moving}
use Rattle.jrn_format.specs.Batch.{EntryFits, LieWithin}
use Rattle.jrn_format.specs.Halves.{Halves, Place, InOlder, InNewer, fits, place_in, place_of}
use Rattle.site_core.specs.Disk.{Disk}
use Rattle.site_core.specs.State.{State}
use Rattle.book_model.specs.declared.refusal.TheConstants.{QUEUE}
use Rattle.book_model.specs.declared.fault.Fault.{Fault}
use Rattle.book_model.specs.declared.next.DiskNext.{DiskNext}
use Rattle.book_model.specs.Entries.{entries_from, live_runs, sizes_of}
use Rattle.book_model.specs.Book.{Book, Doing, Resting, Payload, PayloadSync, OpenGate, OpenSync, CloseGate, CloseSync, FarGate, Mark, MarkSync, Version, VersionSync, is_version_2, base_of, own, queued, appended, being_appended, all_cells, with_fault}
use Rattle.book_model.specs.Book.{room as book_room}
use Rattle.book_model.specs.DiskSteps.{action_of, begun, doing_next, disk_next}
use Rattle.book_model.specs.Reading.{runs_settled}
use Rattle.book_model.specs.Machine.{Machine}
use Rattle.book_model.specs.Plants.{AllFit, AllSettled}
use Rattle.book_model.specs.Frame.{JournalFrame}
use Rattle.book_model.specs.Events.{begun_on, FailsOn, in_progress, rested}
use Rattle.book_model.proofs.FitLaws.{live_runs-append}
use Rattle.book_model.proofs.SettlingLaws.{retire-settled}
use Rattle.book_model.proofs.BeginLaws.{BegunAs, appends, retires, migrates, rests, begun-as}
use Rattle.book_model.specs.OldDoing.{JournalFits}
use Rattle.book_model.specs.OldQueue.{OldCanBegin, FormCanBegin, JournalCanBegin}
use Rattle.book_model.proofs.FormLaws.{journal-begins, journal-fails}
use Rattle.book_model.specs.Up.{AppendsAfter, Up}

all-drop : {A : Type 0} (P : A → Type 0) (k : ℕ) (xs : List A) → AllByRecursion P xs → AllByRecursion P (drop k xs)
all-drop P zero xs all = all
all-drop P (suc k) [] all = tt
all-drop P (suc k) (x ∷ xs) all = all-drop P k xs all.1

pub all-after : {A : Type 0} (P : A → Type 0) (n k : ℕ) (xs : List A) → AllByRecursion P (drop n xs) → AllByRecursion P (drop (n + k) xs)
all-after P n k xs all = subst (AllByRecursion P) (drop-drop k n xs) (all-drop P k (drop n xs) all)

-- how many commands are being appended
abbrev pub taken_by : Doing → ℕ
taken_by doing = length (being_appended (appended doing))

drop-nil : (n : ℕ) → drop {A = Entry} n [] ≡ []
drop-nil zero = refl
drop-nil (suc n) = refl

of-queue : (P : Entry → Type 0) (book : Book) → AllByRecursion P (drop book.durable (own book)) → AllByRecursion P (queued book)
of-queue P book all = all-after P book.durable (taken_by book.doing) (own book) all

-- nothing is queued on an old journal
none-queued : (book : Book) → book.accepted ≡ [] → queued book ≡ []
none-queued book none = ap (λ (commands : List Command). drop (book.durable + taken_by book.doing) (entries_from 0 (base_of book) commands)) none ∙ drop-nil (book.durable + taken_by book.doing)

up-tested : (frame : JournalFrame) (book : Book) (state : State) (took : List Bool) (m : Machine) → Up frame book state took m
    → runs_settled (all_cells book.slaves) (live_runs book.halves.newer) (live_runs book.halves.older) ≡ true → AllSettled book.words (live_runs book.halves.newer) (all_cells book.slaves)
up-tested frame book state took m up is =
    retire-settled book.words up.gone (live_runs book.halves.older) (live_runs book.halves.newer) (all_cells book.slaves) up.same
    (subst (λ (l : List Run). AllFit book.words up.gone l (all_cells book.slaves)) (live_runs-append book.halves.older book.halves.newer) up.fits.fit) is

old-can_begin : (frame : JournalFrame) (book : Book) (state : State) (took : List Bool) (m : Machine) → Up frame book state took m → is_version_2 book.form ≡ false → OldCanBegin frame book
old-can_begin frame book state took m up old =
    record { is_frame = up.line.is_frame; capacity = up.line.capacity; none = none-queued book (up.no_command old); tested = up-tested frame book state took m up }

pub up-can_begin : (frame : JournalFrame) (book : Book) (state : State) (took : List Bool) (m : Machine) → Up frame book state took m → JournalCanBegin frame book
up-can_begin frame book state took m up = in_form book.form refl
  where
    in_form : (form : Form) → book.form ≡ form → FormCanBegin form frame book
    in_form One is = old-can_begin frame book state took m up (ap is_version_2 is)
    in_form Moving is = old-can_begin frame book state took m up (ap is_version_2 is)
    in_form Two is = record {
      is_frame = up.line.is_frame;
      capacity = up.line.capacity;
      durable = up.fits.durable_few;
      queue = record { each = of-queue EntryFits book up.pending.each; within = of-queue (LieWithin (sizes_of book.words)) book up.pending.within; count = let few = up.pending.few in omega (arith, few) };
      ordered = up.ordered;
      tested = up-tested frame book state took m up;
      no_migration = rw (up.no_migration (ap is_version_2 is)) refl;
    }

-- the book does something else with the disk
pub up-doing : (frame : JournalFrame) (book : Book) (state : State) (took : List Bool) (m : Machine) (doing : Doing) (out : Bool) (fault : Option Fault) (disk : Disk) → Up frame book state took m
    → JournalFits frame (record book { doing = doing; is_handed_out = out; fault = fault }) disk → AppendsAfter book.halves doing → length (queued (record book { doing = doing; is_handed_out = out; fault = fault })) ≤ QUEUE
    → Up frame (record book { doing = doing; is_handed_out = out; fault = fault }) (record state { disk = disk }) took m
up-doing frame book state took m doing out fault disk up fits after few = record {
  line = record { is_frame = up.line.is_frame; slaves = up.line.slaves; capacity = up.line.capacity; within = up.line.within };
  of = record { base = up.of.base; accepted = up.of.accepted; acknowledged = up.of.acknowledged };
  gone = up.gone;
  fits = up.fits;
  same = up.same;
  disk = fits;
  slaves = up.slaves;
  pending = record { each = up.pending.each; within = up.pending.within; few = few };
  ordered = up.ordered;
  after = after;
  no_command = up.no_command;
  no_migration = up.no_migration;
}

-- ---- a failure

pub up-fails : (frame : JournalFrame) (book : Book) (state : State) (took : List Bool) (m : Machine) (new : Disk) (fault : Fault) → Up frame book state took m → book.is_handed_out ≡ true → FailsOn (in_progress book) state.disk new
    → Up frame (with_fault (rested book) fault) (record state { disk = new }) took m
up-fails frame book state took m new fault up out fails =
    up-doing frame book state took m book.doing false (with_fault (rested book) fault).fault new up (journal-fails frame book state.disk new fault up.line.capacity out up.disk fails) up.after up.pending.few

-- ---- a beginning

-- the queue is no longer than before
fewer : (book : Book) (doing : Doing) → book.doing ≡ Resting → length (drop (book.durable + taken_by doing) (own book)) ≤ length (queued book)
fewer book doing is =
    let now : taken_by book.doing ≡ 0 = ap taken_by is in
    omega (arith, length-drop (book.durable + taken_by doing) (own book), length-drop (book.durable + taken_by book.doing) (own book))

next-is : (book : Book) (doing : Doing) → (doing ≡ Resting) ⊎ (doing_next book doing ≡ doing)
next-is book Resting = inl refl
next-is book (Payload place entries) = inr refl
next-is book (PayloadSync place entries) = inr refl
next-is book (OpenGate place entries) = inr refl
next-is book (OpenSync place entries) = inr refl
next-is book CloseGate = inr refl
next-is book CloseSync = inr refl
next-is book FarGate = inr refl
next-is book Mark = inr refl
next-is book MarkSync = inr refl
next-is book Version = inr refl
next-is book VersionSync = inr refl

next-few : (book : Book) → length (drop (book.durable + taken_by (doing_next book book.doing)) (own book)) ≤ length (queued book)
next-few book = elim (next-is book book.doing) [
  | inl idle ↦ fewer book (doing_next book book.doing) idle
  | inr same ↦ omega (arith, ap (λ (d : Doing). length (drop (book.durable + taken_by d) (own book))) same)
]

-- ---- the newer half is begun after the older one

not_first : (c : Bool) → (if c then Some InOlder else if c then Some InNewer else None) ≢ Some InNewer
not_first true is = absurd cc
not_first false is = absurd cc

newer-after : (room : ℕ) (halves : Halves) (entries : List Entry) → (halves.older ≡ [] → halves.newer ≡ []) → place_of room halves entries ≡ Some InNewer → halves.older ≢ []
newer-after room halves entries ordered is none =
    let first : place_in room [] halves.newer entries ≡ Some InNewer = subst (λ (l : List Batch). place_in room l halves.newer entries ≡ Some InNewer) none is in
    not_first (fits room [] entries) (subst (λ (l : List Batch). place_in room [] l entries ≡ Some InNewer) (ordered none) first)

-- where the batch of an append goes
abbrev place_or : Option (Place × List Entry) → Place
place_or (Some a) = a.0
place_or None = InOlder

same-place : (place : Place) (entries others : List Entry) → appended (Payload place entries) ≡ Some (InNewer, others) → place ≡ InNewer
same-place place entries others is = ap place_or is

begun-after : (book : Book) (doing : Doing) → (book.halves.older ≡ [] → book.halves.newer ≡ []) → BegunAs book doing → AppendsAfter book.halves doing
begun-after book doing ordered (appends place some is so) = subst (AppendsAfter book.halves) (sym so) (λ entries there. newer-after (book_room book) book.halves (queued book) ordered (is ∙ ap Some (same-place place (queued book) entries there)))
begun-after book doing ordered (retires may so) = subst (AppendsAfter book.halves) (sym so) (λ entries there. absurd cc)
begun-after book doing ordered (migrates may so) = subst (AppendsAfter book.halves) (sym so) (λ entries there. absurd cc)
begun-after book doing ordered (rests so) = subst (AppendsAfter book.halves) (sym so) (λ entries there. absurd cc)

next-after : (book : Book) → (book.halves.older ≡ [] → book.halves.newer ≡ []) → AppendsAfter book.halves book.doing → AppendsAfter book.halves (doing_next book book.doing)
next-after book ordered after = elim (next-is book book.doing) [
  | inl idle ↦ subst (λ (d : Doing). AppendsAfter book.halves (doing_next book d)) (sym idle) (begun-after book (begun book) ordered (begun-as book))
  | inr same ↦ subst (AppendsAfter book.halves) (sym same) after
]

-- what is answered, and the book that is left
pub data Answers (book : Book) : Type 0 where
  same : (disk_next book).1 ≡ book → Answers book
  goes : (disk_next book).1 ≡ record book { doing = doing_next book book.doing; is_handed_out = true; fault = book.fault } → Answers book

by-action : (book : Book) (action : Option DiskNext) → book.is_handed_out ≡ false → is_some book.fault ≡ false → action_of book (doing_next book book.doing) ≡ action → Answers book
by-action book None out ok is = same (rw (out, ok, is) refl)
by-action book (Some action) out ok is = goes (rw (out, ok, is) refl)

by-fault : (book : Book) (failed : Bool) → book.is_handed_out ≡ false → is_some book.fault ≡ failed → Answers book
by-fault book true out ok = same (rw (out, ok) refl)
by-fault book false out ok = by-action book (action_of book (doing_next book book.doing)) out ok refl

pub by-out : (book : Book) (out : Bool) → book.is_handed_out ≡ out → Answers book
by-out book true out = same (rw out refl)
by-out book false out = by-fault book (is_some book.fault) out refl

up-as : (frame : JournalFrame) (book : Book) (state : State) (took : List Bool) (m : Machine) (disk : Disk) → Up frame book state took m → JournalFits frame (disk_next book).1 disk → Answers book
    → Up frame (disk_next book).1 (record state { disk = disk }) took m
up-as frame book state took m disk up fits (same is) =
    subst (λ (b : Book). Up frame b (record state { disk = disk }) took m) (sym is)
    (up-doing frame book state took m book.doing book.is_handed_out book.fault disk up (subst (λ (b : Book). JournalFits frame b disk) is fits) up.after up.pending.few)
up-as frame book state took m disk up fits (goes is) =
    let few = next-few book in
    let before = up.pending.few in
    subst (λ (b : Book). Up frame b (record state { disk = disk }) took m) (sym is)
    (up-doing frame book state took m (doing_next book book.doing) true book.fault disk up (subst (λ (b : Book). JournalFits frame b disk) is fits) (next-after book up.ordered up.after) (omega (arith, few, before)))

pub up-begins : (frame : JournalFrame) (book : Book) (state : State) (took : List Bool) (m : Machine) → Up frame book state took m
    → Up frame (disk_next book).1 (record state { disk = begun_on (Some (disk_next book).0) state.disk }) took m
up-begins frame book state took m up =
    up-as frame book state took m (begun_on (Some (disk_next book).0) state.disk) up (journal-begins frame book state.disk (up-can_begin frame book state took m up) up.disk) (by-out book book.is_handed_out refl)
