-- Up stays true when an action on the disk succeeds.
use Rattle.std.proofs.Common.{◌≡◌, ◌≢◌, ℕ, ◌+◌, ◌≤◌, Bool, true, false, List, [], ◌∷◌, ◌++◌, length, drop, refl, sym, ◌∙◌, ap, subst, arith}
use Rattle.std.specs.Prelude.{Option, Some, None, Ok, is_some}
use Rattle.std.specs.List.{AllByRecursion}
use Rattle.std.proofs.lemmas.List.{append-nil}
use Rattle.jrn_format.specs.declared.journal.Entry.{Entry}
use Rattle.jrn_format.specs.declared.journal.Batch.{Batch}
use Rattle.jrn_format.specs.declared.journal.Form.{Form}
use Rattle.jrn_format.specs.declared.journal.Form.TheVariants.{One, Two, Moving}
use Rattle.jrn_format.specs.Batch.{EntryFits, LieWithin, IsWithin}
use Rattle.jrn_format.specs.Halves.{Halves, Place, InOlder, InNewer, live, batch_in, with_batch, left_of}
use Rattle.jrn_format.proofs.HalvesLaws.{with_batch-live}
use Rattle.site_core.specs.Disk.{Disk}
use Rattle.site_core.specs.State.{State}
use Rattle.book_model.specs.declared.refusal.TheConstants.{QUEUE}
use Rattle.book_model.specs.Entries.{runs_of, live_runs, sizes_of}
use Rattle.book_model.specs.Book.{Book, Doing, Resting, Payload, PayloadSync, OpenGate, OpenSync, CloseGate, CloseSync, FarGate, Mark, MarkSync, Version, VersionSync, base_of, own, appended, being_appended, all_cells}
use Rattle.book_model.specs.DiskSteps.{after_far_gate, went_on, disk_done}
use Rattle.book_model.specs.Machine.{Machine}
use Rattle.book_model.proofs.FitLaws.{entries-in, step-retired}
use Rattle.book_model.proofs.BookLaws.{open-sync-fits}
use Rattle.book_model.specs.Frame.{JournalFrame}
use Rattle.book_model.specs.Doing.{Appending, Retiring, DoingFits}
use Rattle.book_model.specs.Events.{ended_on, in_progress, rested}
use Rattle.book_model.specs.OldDoing.{OldDoingFits, FormFits, JournalFits}
use Rattle.book_model.proofs.FormLaws.{journal-ends}
use Rattle.book_model.specs.Steps.{acknowledged_by}
use Rattle.book_model.specs.Up.{Up}
use Rattle.book_model.proofs.OwingLaws.{slaves-owe, same-owing}
use Rattle.book_model.proofs.DiskEventLaws.{all-after, taken_by, up-doing}
use Rattle.book_model.proofs.KeptLaws.{left-live}
use Rattle.sii_words.proofs.Quantifiers.{all_append, all_after}

-- what is to become live
pub appends-of : (frame : JournalFrame) (book : Book) (disk : Disk) (place : Place) (entries : List Entry) → book.doing ≡ OpenSync place entries → (form : Form) → FormFits form frame book disk → Appending book place entries
appends-of frame book disk place entries is One fits = absurd (subst (λ (d : Doing). OldDoingFits frame book d disk) is fits.holds)
appends-of frame book disk place entries is Two fits = (subst (λ (d : Doing). DoingFits frame book d book.is_handed_out (is_some book.fault) disk) is fits).0
appends-of frame book disk place entries is Moving fits = absurd (subst (λ (d : Doing). OldDoingFits frame book d disk) is fits.holds)

-- what is to be retired
retires-of : (frame : JournalFrame) (book : Book) (disk : Disk) → book.doing ≡ CloseSync → (form : Form) → FormFits form frame book disk → Retiring book
retires-of frame book disk is One fits = (subst (λ (d : Doing). OldDoingFits frame book d disk) is fits.holds).1
retires-of frame book disk is Two fits = (subst (λ (d : Doing). DoingFits frame book d book.is_handed_out (is_some book.fault) disk) is fits).0
retires-of frame book disk is Moving fits = (subst (λ (d : Doing). OldDoingFits frame book d disk) is fits.holds).1

up-acknowledged : (frame : JournalFrame) (book : Book) (state : State) (took : List Bool) (m : Machine) → Up frame book state took m → Up frame book state took (acknowledged_by book m)
up-acknowledged frame book state took m up = record {
  line = up.line;
  of = record { base = up.of.base; accepted = up.of.accepted; acknowledged = refl };
  gone = up.gone;
  fits = up.fits;
  same = up.same;
  disk = up.disk;
  slaves = up.slaves;
  pending = up.pending;
  ordered = up.ordered;
  after = up.after;
  no_command = up.no_command;
  no_migration = up.no_migration;
}

-- the next step of the same action
up-steps : (frame : JournalFrame) (book : Book) (state : State) (took : List Bool) (m : Machine) (disk : Disk) (doing : Doing) → Up frame book state took m → appended book.doing ≡ appended doing
    → JournalFits frame (record book { doing = doing; is_handed_out = false }) disk
    → Up frame (record book { doing = doing; is_handed_out = false }) (record state { disk = disk }) took (acknowledged_by book m)
up-steps frame book state took m disk doing up same fits =
    let n : book.durable + taken_by book.doing ≡ book.durable + taken_by doing = ap (λ (a : Option (Place × List Entry)). book.durable + length (being_appended a)) same in
    up-doing frame book state took (acknowledged_by book m) doing false book.fault disk (up-acknowledged frame book state took m up) fits
    (λ entries there. up.after entries (same ∙ there))
    (subst (λ (k : ℕ). length (drop k (own book)) ≤ QUEUE) n up.pending.few)

-- ---- a batch becomes live

some-after : (older : List Batch) (batch : Batch) → older ++ batch ∷ [] ≢ []
some-after [] batch is = absurd cc
some-after (b ∷ older) batch is = absurd cc

ordered-live : (halves : Halves) (place : Place) (batch : Batch) → (place ≡ InNewer → halves.older ≢ []) → (with_batch halves place batch).older ≡ [] → (with_batch halves place batch).newer ≡ []
ordered-live halves InOlder batch after none = absurd (some-after halves.older batch none)
ordered-live halves InNewer batch after none = absurd (after refl none)

up-live : (frame : JournalFrame) (book : Book) (state : State) (took : List Bool) (m : Machine) (disk : Disk) (place : Place) (entries : List Entry) → Up frame book state took m → book.doing ≡ OpenSync place entries
    → JournalFits frame (went_on (rested book) (OpenSync place entries)) disk
    → Up frame (went_on (rested book) (OpenSync place entries)) (record state { disk = disk }) took (acknowledged_by (went_on (rested book) (OpenSync place entries)) m)
up-live frame book state took m disk place entries up is fits =
    let appends : Appending book place entries = appends-of frame book state.disk place entries is book.form up.disk in
    let batch = batch_in book.halves place entries in
    let sizes = sizes_of book.words in
    let within : IsWithin sizes batch = subst (AllByRecursion (LieWithin sizes)) (sym (entries-in book.halves place entries)) appends.within in
    let count : (book.durable + length entries) + 0 ≡ book.durable + taken_by book.doing = omega (arith, ap taken_by is) in
    record {
      line = record {
        is_frame = up.line.is_frame;
        slaves = up.line.slaves;
        capacity = up.line.capacity;
        within = subst (AllByRecursion (IsWithin sizes)) (sym (with_batch-live book.halves place batch appends.in_older)) (all_append (IsWithin sizes) (live book.halves) (batch ∷ []) up.line.within (within, tt));
      };
      of = record { base = up.of.base; accepted = up.of.accepted; acknowledged = refl };
      gone = up.gone;
      fits = open-sync-fits book up.gone place entries up.fits up.same appends.in_older appends.next appends.few;
      same = same-owing book.words book.slaves (runs_of entries) up.same;
      disk = fits;
      slaves = slaves-owe state.halves book.slaves took (runs_of entries) up.slaves;
      pending = record {
        each = all-after EntryFits book.durable (length entries) (own book) up.pending.each;
        within = all-after (LieWithin sizes) book.durable (length entries) (own book) up.pending.within;
        few = subst (λ (n : ℕ). length (drop n (own book)) ≤ QUEUE) (sym count) up.pending.few;
      };
      ordered = ordered-live book.halves place batch (λ newer. up.after entries (ap appended is ∙ ap (λ (p : Place). Some (p, entries)) newer));
      after = λ others there. absurd cc;
      no_command = up.no_command;
      no_migration = up.no_migration;
    }

-- ---- the older half is retired

left-newer : (halves : Halves) (newer : List Batch) → (left_of halves newer).newer ≡ []
left-newer halves [] = refl
left-newer halves (b ∷ newer) = refl

up-retired : (frame : JournalFrame) (book : Book) (state : State) (took : List Bool) (m : Machine) (disk : Disk) → Up frame book state took m → book.doing ≡ CloseSync → JournalFits frame (went_on (rested book) CloseSync) disk
    → Up frame (went_on (rested book) CloseSync) (record state { disk = disk }) took (acknowledged_by book m)
up-retired frame book state took m disk up is fits =
    let retires : Retiring book = retires-of frame book state.disk is book.form up.disk in
    let halves = book.halves in
    let sizes = sizes_of book.words in
    let count : book.durable + 0 ≡ book.durable + taken_by book.doing = omega (arith, ap taken_by is) in
    record {
      line = record {
        is_frame = up.line.is_frame;
        slaves = up.line.slaves;
        capacity = up.line.capacity;
        within = subst (AllByRecursion (IsWithin sizes)) (sym (left-live halves halves.newer)) (all_after (IsWithin sizes) halves.older halves.newer up.line.within);
      };
      of = record { base = up.of.base; accepted = up.of.accepted; acknowledged = refl };
      gone = up.gone ++ live_runs halves.older;
      fits = step-retired book.words (base_of book) (own book) book.durable halves (all_cells book.slaves) up.gone up.fits retires.settled;
      same = up.same;
      disk = fits;
      slaves = up.slaves;
      pending = record { each = up.pending.each; within = up.pending.within; few = subst (λ (n : ℕ). length (drop n (own book)) ≤ QUEUE) (sym count) up.pending.few };
      ordered = λ none. left-newer halves halves.newer;
      after = λ others there. absurd cc;
      no_command = up.no_command;
      no_migration = up.no_migration;
    }

-- ---- the journal is migrated

pub none-appended : (form : Form) → appended (after_far_gate form) ≡ None
none-appended One = refl
none-appended Two = refl
none-appended Moving = refl

up-migrated : (frame : JournalFrame) (book : Book) (state : State) (took : List Bool) (m : Machine) (disk : Disk) → Up frame book state took m → book.doing ≡ VersionSync → JournalFits frame (went_on (rested book) VersionSync) disk
    → Up frame (went_on (rested book) VersionSync) (record state { disk = disk }) took (acknowledged_by book m)
up-migrated frame book state took m disk up is fits =
    let count : book.durable + 0 ≡ book.durable + taken_by book.doing = omega (arith, ap taken_by is) in
    record {
      line = record { is_frame = up.line.is_frame; slaves = up.line.slaves; capacity = up.line.capacity; within = up.line.within };
      of = record { base = up.of.base; accepted = up.of.accepted; acknowledged = refl };
      gone = up.gone;
      fits = up.fits;
      same = up.same;
      disk = fits;
      slaves = up.slaves;
      pending = record { each = up.pending.each; within = up.pending.within; few = subst (λ (n : ℕ). length (drop n (own book)) ≤ QUEUE) (sym count) up.pending.few };
      ordered = up.ordered;
      after = λ others there. absurd cc;
      no_command = λ old. absurd cc;
      no_migration = λ two. refl;
    }

-- ---- whatever is done

abbrev UpAfter : JournalFrame → Book → State → List Bool → Machine → Disk → Type 0
UpAfter frame later state took m disk = Up frame later (record state { disk = disk }) took (acknowledged_by later m)

up-went : (frame : JournalFrame) (book : Book) (state : State) (took : List Bool) (m : Machine) (disk : Disk) (doing : Doing) → Up frame book state took m → book.doing ≡ doing
    → JournalFits frame (went_on (rested book) doing) disk → UpAfter frame (went_on (rested book) doing) state took m disk
up-went frame book state took m disk Resting up is fits =
    up-doing frame book state took (acknowledged_by book m) book.doing false book.fault disk (up-acknowledged frame book state took m up) fits up.after up.pending.few
up-went frame book state took m disk (Payload place entries) up is fits = up-steps frame book state took m disk (PayloadSync place entries) up (ap appended is) fits
up-went frame book state took m disk (PayloadSync place entries) up is fits = up-steps frame book state took m disk (OpenGate place entries) up (ap appended is) fits
up-went frame book state took m disk (OpenGate place entries) up is fits = up-steps frame book state took m disk (OpenSync place entries) up (ap appended is) fits
up-went frame book state took m disk (OpenSync place entries) up is fits = up-live frame book state took m disk place entries up is fits
up-went frame book state took m disk CloseGate up is fits = up-steps frame book state took m disk CloseSync up (ap appended is) fits
up-went frame book state took m disk CloseSync up is fits = up-retired frame book state took m disk up is fits
up-went frame book state took m disk FarGate up is fits = up-steps frame book state took m disk (after_far_gate book.form) up (ap appended is ∙ sym (none-appended book.form)) fits
up-went frame book state took m disk Mark up is fits = up-steps frame book state took m disk MarkSync up (ap appended is) fits
up-went frame book state took m disk MarkSync up is fits = up-steps frame book state took m disk Version up (ap appended is) fits
up-went frame book state took m disk Version up is fits = up-steps frame book state took m disk VersionSync up (ap appended is) fits
up-went frame book state took m disk VersionSync up is fits = up-migrated frame book state took m disk up is fits

pub up-ends : (frame : JournalFrame) (book : Book) (state : State) (took : List Bool) (m : Machine) → Up frame book state took m → book.is_handed_out ≡ true
    → Up frame (disk_done book (Ok tt)) (record state { disk = ended_on (in_progress book) state.disk }) took (acknowledged_by (disk_done book (Ok tt)) m)
up-ends frame book state took m up out =
    let done : disk_done book (Ok tt) ≡ went_on (rested book) book.doing = rw out refl in
    let disk = ended_on (in_progress book) state.disk in
    let fits = journal-ends frame book state.disk up.line.is_frame up.line.capacity out up.disk in
    subst (λ (b : Book). UpAfter frame b state took m disk) (sym done)
    (up-went frame book state took m disk book.doing up refl (subst (λ (b : Book). JournalFits frame b disk) done fits))
