-- OldFits, or DiskFits after a migration, holds when an action on an old journal succeeds.
use Rattle.std.proofs.Common.{◌≡◌, ◌≢◌, ℕ, ◌+◌, true, false, List, [], ◌∷◌, ◌++◌, length, refl, sym, ◌∙◌, ap, subst, arith}
use Rattle.std.specs.Prelude.{Ok}
use Rattle.jrn_format.specs.declared.journal.Batch.{Batch}
use Rattle.jrn_format.specs.declared.journal.Form.{Form}
use Rattle.jrn_format.specs.declared.journal.Form.TheVariants.{One, Two, Moving}
use Rattle.jrn_format.specs.declared.journal.Spelling.TheVariants.{Plain, WithGeneration}
use Rattle.jrn_format.specs.Halves.{Halves, retired}
use Rattle.jrn_format.proofs.FileLaws.{changed_bytes}
use Rattle.jrn_format.proofs.MigrationLaws.{closed_live}
use Rattle.site_core.specs.Disk.{Disk, WriteFailed, written, synced}
use Rattle.book_model.specs.declared.fault.Fault.{Fault}
use Rattle.book_model.specs.Book.{Book, Doing, Resting, Payload, PayloadSync, OpenGate, OpenSync, CloseGate, CloseSync, FarGate, Mark, MarkSync, Version, VersionSync, is_version_2, with_fault}
use Rattle.book_model.specs.DiskSteps.{action_of, went_on, disk_done}
use Rattle.book_model.specs.Frame.{JournalFrame, room, IsJournalFrame}
use Rattle.book_model.specs.Phases.{AtRest}
use Rattle.book_model.specs.Events.{ended_on, FailsOn, in_progress, rested}
use Rattle.book_model.proofs.StopLaws.{failed-agrees, between}
use Rattle.book_model.proofs.AppendLaws.{single}
use Rattle.book_model.specs.OldFile.{IsVersioned, area, mark_bytes, IsEmptied, OldAtRest, OldClosing, BeforeVersion, AtVersion}
use Rattle.book_model.specs.OldDoing.{undivided, OldDoingFits, OldFits, FormFits, JournalFits}
use Rattle.book_model.proofs.RangeLaws.{torn-same}
use Rattle.book_model.proofs.EmptiedLaws.{head_of, versioned-long, mark-written, far-written, version-written, mark-torn, far-torn, version-torn}
use Rattle.book_model.proofs.JournalLaws.{closed-area}
use Rattle.book_model.proofs.OldBeginLaws.{first-gate, far-gate}
use Rattle.book_model.proofs.OldCarryLaws.{OldCarries, old-goes}

-- files of one frame are of one length
same-long : (frame : JournalFrame) (version other : ℕ) (first second one two bytes image : List ℕ) → IsVersioned frame version first second bytes → IsVersioned frame other one two image → length image ≡ length bytes
same-long frame version other first second one two bytes image v w = versioned-long frame other one two image w ∙ sym (versioned-long frame version first second bytes v)

emptied-long : (frame : JournalFrame) (version other : ℕ) (mark over : List ℕ) (far gate : ℕ) (bytes image : List ℕ) → IsEmptied frame version mark far bytes → IsEmptied frame other over gate image → length image ≡ length bytes
emptied-long frame version other mark over far gate bytes image e f =
    same-long frame version other (e.gate ∷ (mark ++ e.first)) (far ∷ e.second) (f.gate ∷ (over ++ f.first)) (gate ∷ f.second) bytes image e.versioned f.versioned

-- ---- a retire

with-gate : (frame : JournalFrame) (batches : List Batch) (gate over : ℕ) (disk new : Disk) (c : OldClosing frame batches gate disk) → new.bytes ≡ head_of frame 1 ++ ((over ∷ []) ++ ((c.rest ++ c.second) ++ frame.last))
    → new.unsynced ≡ disk.unsynced → new.synced_length ≡ disk.synced_length → OldClosing frame batches over new
with-gate frame batches gate over disk new c is ranges size =
    let v : IsVersioned frame 1 (over ∷ c.rest) c.second new.bytes = record { file = record { equal = c.versioned.file.equal; is = is }; room = c.versioned.room } in
    record {
      rest = c.rest;
      second = c.second;
      versioned = v;
      live = c.live;
      torn = torn-same 8 1 disk new c.torn ranges size (same-long frame 1 1 (gate ∷ c.rest) c.second (over ∷ c.rest) c.second disk.bytes new.bytes c.versioned v);
    }

close-done : (frame : JournalFrame) (batches : List Batch) (gate over : ℕ) (disk : Disk) → OldClosing frame batches gate disk → OldClosing frame batches over (written disk 8 (over ∷ []))
close-done frame batches gate over disk c =
    with-gate frame batches gate over disk (written disk 8 (over ∷ [])) c
    (changed_bytes disk.bytes (head_of frame 1) (gate ∷ []) (over ∷ []) ((c.rest ++ c.second) ++ frame.last) c.versioned.file.is refl) refl refl

close-failed : (frame : JournalFrame) (batches : List Batch) (gate : ℕ) (disk new : Disk) → OldClosing frame batches gate disk → WriteFailed disk 8 1 new → (torn : ℕ) × OldClosing frame batches torn new
close-failed frame batches gate disk new c failed =
    let back = (c.rest ++ c.second) ++ frame.last in
    let b = between (head_of frame 1) (gate ∷ []) back disk.bytes new.bytes c.versioned.file.is (failed-agrees disk new 8 1 failed) in
    let s = single b.middle b.long in
    (s.0, with-gate frame batches gate s.0 disk new c (b.is ∙ ap (λ (m : List ℕ). head_of frame 1 ++ (m ++ back)) s.1) failed.unsynced failed.synced_length)

-- nothing is live once the gate is closed and synced
close-synced : (frame : JournalFrame) (batches : List Batch) (gate : ℕ) (disk : Disk) → IsJournalFrame frame → gate ≢ 0xA5 → OldClosing frame batches gate disk → OldAtRest frame One [] (synced disk)
close-synced frame batches gate disk is_frame closed c = record {
  version = 1;
  first = gate ∷ c.rest;
  second = c.second;
  versioned = c.versioned;
  is_form = refl;
  live = closed_live Plain 0 (area frame (gate ∷ c.rest) c.second) (closed-area frame gate c.rest c.second is_frame closed);
  synced = refl;
  entire = omega arith;
}

-- ---- a migration

far-done : (frame : JournalFrame) (form : Form) (mark : List ℕ) (far : ℕ) (disk : Disk) → BeforeVersion frame form mark far disk → BeforeVersion frame form mark 0 (written disk (8 + room frame) (0 ∷ []))
far-done frame One mark far disk b =
    let new = written disk (8 + room frame) (0 ∷ []) in
    let e = far-written frame 1 mark far disk.bytes b.0 0 in
    (e, torn-same 9 (room frame) disk new b.1 refl refl (emptied-long frame 1 1 mark mark far 0 disk.bytes new.bytes b.0 e))
far-done frame Two mark far disk b = b
far-done frame Moving mark far disk b =
    let new = written disk (8 + room frame) (0 ∷ []) in
    let e = far-written frame b.0 mark far disk.bytes b.4 0 in
    (b.0, b.1, b.2, b.3, e, torn-same (8 + room frame) 1 disk new b.5 refl refl (emptied-long frame b.0 b.0 mark mark far 0 disk.bytes new.bytes b.4 e))

far-failed : (frame : JournalFrame) (form : Form) (mark : List ℕ) (far : ℕ) (disk new : Disk) → BeforeVersion frame form mark far disk → WriteFailed disk (8 + room frame) 1 new → (torn : ℕ) × BeforeVersion frame form mark torn new
far-failed frame One mark far disk new b failed =
    let t = far-torn frame 1 mark far disk.bytes b.0 new.bytes (failed-agrees disk new (8 + room frame) 1 failed) in
    (t.0, (t.1, torn-same 9 (room frame) disk new b.1 failed.unsynced failed.synced_length (emptied-long frame 1 1 mark mark far t.0 disk.bytes new.bytes b.0 t.1)))
far-failed frame Two mark far disk new b failed = absurd b
far-failed frame Moving mark far disk new b failed =
    let t = far-torn frame b.0 mark far disk.bytes b.4 new.bytes (failed-agrees disk new (8 + room frame) 1 failed) in
    (t.0, (b.0, b.1, b.2, b.3, t.1, torn-same (8 + room frame) 1 disk new b.5 failed.unsynced failed.synced_length (emptied-long frame b.0 b.0 mark mark far t.0 disk.bytes new.bytes b.4 t.1)))

mark-done : (frame : JournalFrame) (mark : List ℕ) (far : ℕ) (disk : Disk) → BeforeVersion frame One mark far disk → BeforeVersion frame One mark_bytes far (written disk 9 mark_bytes)
mark-done frame mark far disk b =
    let new = written disk 9 mark_bytes in
    let e = mark-written frame 1 mark far disk.bytes b.0 mark_bytes refl in
    (e, torn-same 9 (room frame) disk new b.1 refl refl (emptied-long frame 1 1 mark mark_bytes far far disk.bytes new.bytes b.0 e))

mark-failed : (frame : JournalFrame) (mark : List ℕ) (far : ℕ) (disk new : Disk) → BeforeVersion frame One mark far disk → WriteFailed disk 9 4 new → (torn : List ℕ) × BeforeVersion frame One torn far new
mark-failed frame mark far disk new b failed =
    let t = mark-torn frame 1 mark far disk.bytes b.0 new.bytes (failed-agrees disk new 9 4 failed) in
    (t.0, (t.1, torn-same 9 (room frame) disk new b.1 failed.unsynced failed.synced_length (emptied-long frame 1 1 mark t.0 far far disk.bytes new.bytes b.0 t.1)))

mark-synced : (frame : JournalFrame) (form : Form) (disk : Disk) → BeforeVersion frame form mark_bytes 0 disk → (version : ℕ) × AtVersion frame version (synced disk)
mark-synced frame One disk b = (1, record { emptied = b.0; torn = record { ranges = tt; entire = omega arith } })
mark-synced frame Two disk b = absurd b
mark-synced frame Moving disk b = (b.0, record { emptied = b.4; torn = record { ranges = tt; entire = omega arith } })

version-done : (frame : JournalFrame) (version over : ℕ) (disk : Disk) → AtVersion frame version disk → AtVersion frame over (written disk 1 (over ∷ []))
version-done frame version over disk a =
    let new = written disk 1 (over ∷ []) in
    let e = version-written frame version mark_bytes 0 disk.bytes a.emptied over in
    record { emptied = e; torn = torn-same 1 1 disk new a.torn refl refl (emptied-long frame version over mark_bytes mark_bytes 0 0 disk.bytes new.bytes a.emptied e) }

version-failed : (frame : JournalFrame) (version : ℕ) (disk new : Disk) → AtVersion frame version disk → WriteFailed disk 1 1 new → (torn : ℕ) × AtVersion frame torn new
version-failed frame version disk new a failed =
    let t = version-torn frame version mark_bytes 0 disk.bytes a.emptied new.bytes (failed-agrees disk new 1 1 failed) in
    (t.0, record { emptied = t.1; torn = torn-same 1 1 disk new a.torn failed.unsynced failed.synced_length (emptied-long frame version t.0 mark_bytes mark_bytes 0 0 disk.bytes new.bytes a.emptied t.1) })

-- the journal is of version 2, and nothing is live in either half
version-synced : (frame : JournalFrame) (disk : Disk) → AtVersion frame 2 disk → AtRest frame (undivided []) (synced disk)
version-synced frame disk a =
    let e = a.emptied in
    let first = e.gate ∷ (mark_bytes ++ e.first) in
    let second = 0 ∷ e.second in
    record {
      older = first;
      newer = second;
      framed = record { file = e.versioned.file; room = e.versioned.room };
      stands = record {
        at = omega arith;
        generation = omega arith;
        older_live = closed_live WithGeneration 0 first (e.gate, mark_bytes ++ e.first, e.closed, refl);
        newer_live = closed_live WithGeneration 1 second (0, e.second, λ zero. absurd cc, refl);
        older_of = tt;
        newer_of = tt;
      };
      synced = refl;
      entire = omega arith;
    }

-- ---- success

pub by-form : (form : Form) (frame : JournalFrame) (book : Book) (disk : Disk) → is_version_2 form ≡ false → OldFits frame book disk → FormFits form frame book disk
by-form One frame book disk old fits = fits
by-form Two frame book disk old fits = absurd cc
by-form Moving frame book disk old fits = fits

-- the book does this next
stays-old : (frame : JournalFrame) (book : Book) (old_disk disk : Disk) (doing : Doing) → OldFits frame book old_disk → OldDoingFits frame book doing disk → JournalFits frame (record book { doing = doing; is_handed_out = false }) disk
stays-old frame book old_disk disk doing fits holds =
    let later : Book = record book { doing = doing; is_handed_out = false } in
    let carries : OldCarries book later = record { form = refl; halves = refl; retires = λ r. r } in
    by-form book.form frame later disk fits.old (old-goes frame book later old_disk disk carries fits doing refl holds)

retire-ends : (frame : JournalFrame) (book : Book) (disk : Disk) → IsJournalFrame frame → OldFits frame book disk → OldDoingFits frame book CloseSync disk → JournalFits frame (went_on (rested book) CloseSync) (synced disk)
retire-ends frame book disk is_frame fits f =
    let left : retired book.halves ≡ undivided [] = ap retired fits.halves in
    by-form book.form frame (went_on (rested book) CloseSync) (synced disk) fits.old (record {
      old = fits.old;
      halves = left ∙ ap (λ (h : Halves). undivided h.older) (sym left);
      holds = subst (λ (h : Halves). OldAtRest frame book.form h.older (synced disk)) (sym left)
          (subst (λ (form : Form). OldAtRest frame form [] (synced disk)) (sym f.0) (close-synced frame book.halves.older 0 disk is_frame (λ e. absurd cc) f.2));
    })

far-ends : (frame : JournalFrame) (book : Book) (old_disk disk : Disk) (mark : List ℕ) → OldFits frame book old_disk → book.halves.older ≡ [] → (form : Form) → book.form ≡ form → BeforeVersion frame form mark 0 disk
    → JournalFits frame (went_on (rested book) FarGate) disk
far-ends frame book old_disk disk mark fits none One is b =
    let goes : went_on (rested book) FarGate ≡ record book { doing = Mark; is_handed_out = false } = rw is refl in
    subst (λ (later : Book). JournalFits frame later disk) (sym goes)
    (stays-old frame book old_disk disk Mark fits (none, is, (mark, subst (λ (form : Form). BeforeVersion frame form mark 0 disk) (sym is) b)))
far-ends frame book old_disk disk mark fits none Two is b = absurd b
far-ends frame book old_disk disk mark fits none Moving is b =
    let goes : went_on (rested book) FarGate ≡ record book { doing = MarkSync; is_handed_out = false } = rw is refl in
    let marked : BeforeVersion frame Moving mark_bytes 0 disk = (b.0, b.1, b.2, refl, subst (λ (m : List ℕ). IsEmptied frame b.0 m 0 disk.bytes) b.3 b.4, b.5) in
    subst (λ (later : Book). JournalFits frame later disk) (sym goes)
    (stays-old frame book old_disk disk MarkSync fits (none, subst (λ (form : Form). BeforeVersion frame form mark_bytes 0 disk) (sym is) marked))

version-ends : (frame : JournalFrame) (book : Book) (disk : Disk) → OldFits frame book disk → OldDoingFits frame book VersionSync disk → JournalFits frame (went_on (rested book) VersionSync) (synced disk)
version-ends frame book disk fits f =
    let empty : book.halves ≡ undivided [] = fits.halves ∙ ap undivided f.0 in
    subst (λ (h : Halves). AtRest frame h (synced disk)) (sym empty) (version-synced frame disk f.1)

went : (frame : JournalFrame) (book : Book) (disk : Disk) → IsJournalFrame frame → book.capacity ≡ frame.capacity → OldFits frame book disk → (doing : Doing) → book.doing ≡ doing → OldDoingFits frame book doing disk
    → JournalFits frame (went_on (rested book) doing) (ended_on (action_of book doing) disk)
went frame book disk is_frame same fits Resting is f =
    subst (λ (d : Doing). JournalFits frame (record book { doing = d; is_handed_out = false }) disk) (sym is) (stays-old frame book disk disk Resting fits f)
went frame book disk is_frame same fits (Payload place entries) is f = absurd f
went frame book disk is_frame same fits (PayloadSync place entries) is f = absurd f
went frame book disk is_frame same fits (OpenGate place entries) is f = absurd f
went frame book disk is_frame same fits (OpenSync place entries) is f = absurd f
went frame book disk is_frame same fits CloseGate is f =
    let new : Disk = ended_on (action_of book CloseGate) disk in
    stays-old frame book disk new CloseSync fits
    (f.0, f.1, subst (λ (n : ℕ). OldClosing frame book.halves.older 0 (written disk n (0 ∷ []))) (sym (first-gate book fits.halves)) (close-done frame book.halves.older f.2.0 0 disk f.2.1))
went frame book disk is_frame same fits CloseSync is f = retire-ends frame book disk is_frame fits f
went frame book disk is_frame same fits FarGate is f =
    let new : Disk = ended_on (action_of book FarGate) disk in
    far-ends frame book disk new f.1.0 fits f.0 book.form refl
    (subst (λ (n : ℕ). BeforeVersion frame book.form f.1.0 0 (written disk n (0 ∷ []))) (sym (far-gate frame book same)) (far-done frame book.form f.1.0 f.1.1 disk f.1.2))
went frame book disk is_frame same fits Mark is f =
    let b = subst (λ (form : Form). BeforeVersion frame form f.2.0 0 disk) f.1 f.2.1 in
    stays-old frame book disk (written disk 9 mark_bytes) MarkSync fits
    (f.0, subst (λ (form : Form). BeforeVersion frame form mark_bytes 0 (written disk 9 mark_bytes)) (sym f.1) (mark-done frame f.2.0 0 disk b))
went frame book disk is_frame same fits MarkSync is f = stays-old frame book disk (synced disk) Version fits (f.0, mark-synced frame book.form disk f.1)
went frame book disk is_frame same fits Version is f = stays-old frame book disk (written disk 1 (2 ∷ [])) VersionSync fits (f.0, version-done frame f.1.0 2 disk f.1.1)
went frame book disk is_frame same fits VersionSync is f = version-ends frame book disk fits f

pub old-ends : (frame : JournalFrame) (book : Book) (disk : Disk) → IsJournalFrame frame → book.capacity ≡ frame.capacity → book.is_handed_out ≡ true → OldFits frame book disk
    → JournalFits frame (disk_done book (Ok tt)) (ended_on (in_progress book) disk)
old-ends frame book disk is_frame same out fits =
    let done : disk_done book (Ok tt) ≡ went_on (rested book) book.doing = rw out refl in
    subst (λ (b : Book). JournalFits frame b (ended_on (in_progress book) disk)) (sym done) (went frame book disk is_frame same fits book.doing refl fits.holds)

-- ---- after a fault

failed-doing : (frame : JournalFrame) (book : Book) (disk new : Disk) → book.capacity ≡ frame.capacity → book.halves ≡ undivided book.halves.older → (doing : Doing) → OldDoingFits frame book doing disk → FailsOn (action_of book doing) disk new
    → OldDoingFits frame book doing new
failed-doing frame book disk new same one Resting f fails = subst (OldAtRest frame book.form book.halves.older) (sym fails) f
failed-doing frame book disk new same one (Payload place entries) f fails = absurd f
failed-doing frame book disk new same one (PayloadSync place entries) f fails = absurd f
failed-doing frame book disk new same one (OpenGate place entries) f fails = absurd f
failed-doing frame book disk new same one (OpenSync place entries) f fails = absurd f
failed-doing frame book disk new same one CloseGate f fails =
    (f.0, f.1, close-failed frame book.halves.older f.2.0 disk new f.2.1 (subst (λ (n : ℕ). WriteFailed disk n 1 new) (first-gate book one) fails))
failed-doing frame book disk new same one CloseSync f fails = subst (OldDoingFits frame book CloseSync) (sym fails) f
failed-doing frame book disk new same one FarGate f fails =
    let t = far-failed frame book.form f.1.0 f.1.1 disk new f.1.2 (subst (λ (n : ℕ). WriteFailed disk n 1 new) (far-gate frame book same) fails) in
    (f.0, (f.1.0, t.0, t.1))
failed-doing frame book disk new same one Mark f fails =
    let t = mark-failed frame f.2.0 0 disk new (subst (λ (form : Form). BeforeVersion frame form f.2.0 0 disk) f.1 f.2.1) fails in
    (f.0, f.1, (t.0, subst (λ (form : Form). BeforeVersion frame form t.0 0 new) (sym f.1) t.1))
failed-doing frame book disk new same one MarkSync f fails = subst (OldDoingFits frame book MarkSync) (sym fails) f
failed-doing frame book disk new same one Version f fails = (f.0, version-failed frame f.1.0 disk new f.1.1 fails)
failed-doing frame book disk new same one VersionSync f fails = subst (OldDoingFits frame book VersionSync) (sym fails) f

-- a fault of the disk, or a site that stopped
pub old-fails : (frame : JournalFrame) (book : Book) (disk new : Disk) (fault : Fault) → book.capacity ≡ frame.capacity → book.is_handed_out ≡ true → OldFits frame book disk → FailsOn (in_progress book) disk new
    → OldFits frame (with_fault (rested book) fault) new
old-fails frame book disk new fault same out fits fails =
    let later = with_fault (rested book) fault in
    let carries : OldCarries book later = record { form = refl; halves = refl; retires = λ r. r } in
    old-goes frame book later disk new carries fits book.doing refl (failed-doing frame book disk new same fits.halves book.doing fits.holds fails)
