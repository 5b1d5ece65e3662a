-- What the book writes begins inside the disk.
use Rattle.std.proofs.Common.{◌≡◌, inl, inr, ℕ, zero, suc, ◌+◌, ◌*◌, ◌≤◌, Bool, true, false, List, [], ◌∷◌, ◌++◌, length, refl, ap, subst, arith, length-append, append_assoc, Option, Some, None}
use Rattle.std.specs.Prelude.{is_some}
use Rattle.jrn_format.specs.declared.journal.Entry.{Entry}
use Rattle.jrn_format.specs.declared.journal.Form.{Form}
use Rattle.jrn_format.specs.declared.journal.Form.TheVariants.{One, Two, Moving}
use Rattle.jrn_format.specs.declared.journal.Spelling.TheVariants.{WithGeneration}
use Rattle.jrn_format.specs.Area.{spelt_batches}
use Rattle.jrn_format.specs.Header.{header_bytes}
use Rattle.jrn_format.specs.Halves.{Halves, Place, half_of, batches_in}
use Rattle.jrn_format.specs.File.{IsFile}
use Rattle.site_core.specs.Disk.{Disk, write_begun}
use Rattle.site_core.specs.State.{Seen}
use Rattle.book_model.specs.declared.next.DiskNext.{DiskNext}
use Rattle.book_model.specs.declared.next.DiskNext.TheVariants as next
use Rattle.book_model.specs.Book.{Book, Doing, Resting, Payload, PayloadSync, OpenGate, OpenSync, CloseGate, CloseSync, FarGate, Mark, MarkSync, Version, VersionSync, half_at}
use Rattle.book_model.specs.DiskSteps.{place_at, action_of, disk_next}
use Rattle.book_model.specs.Machine.{Machine}
use Rattle.book_model.specs.Frame.{JournalFrame, room, IsFramed}
use Rattle.book_model.specs.Events.{begun_on, in_progress}
use Rattle.book_model.specs.Doing.{OpensGate, DoingFits}
use Rattle.book_model.specs.OldFile.{IsVersioned, BeforeVersion}
use Rattle.book_model.specs.OldDoing.{OldDoingFits, FormFits, JournalFits}
use Rattle.book_model.proofs.AppendLaws.{half_small}
use Rattle.book_model.proofs.DoneLaws.{place-at, half-at}
use Rattle.book_model.specs.Up.{Up}
use Rattle.site_journal.proofs.DiskRuns.{IsAction, begun-up, out-of}
use Rattle.book_model.proofs.StopLaws.{header_long}

-- ---- how long the file is

file-long : (version slaves capacity at : ℕ) (one two last bytes : List ℕ) → IsFile (header_bytes version slaves capacity) at one two last bytes → length bytes ≡ 8 + (length one + length two + length last)
file-long version slaves capacity zero one two last bytes file =
    omega (arith, ap length file.is, header_long version slaves capacity, length-append (header_bytes version slaves capacity) ((one ++ two) ++ last), length-append (one ++ two) last, length-append one two)
file-long version slaves capacity (suc n) one two last bytes file =
    omega (arith, ap length file.is, header_long version slaves capacity, length-append (header_bytes version slaves capacity) ((two ++ one) ++ last), length-append (two ++ one) last, length-append two one)

-- a place in a half
half-inside : (frame : JournalFrame) (half : ℕ) (one two bytes : List ℕ) (into : ℕ) → half ≤ 1 → into ≤ length one → IsFramed frame half one two bytes → 8 + half * room frame + into ≤ length bytes
half-inside frame zero one two bytes into le small framed =
    let long = file-long 2 frame.slaves frame.capacity zero one two frame.last bytes framed.file in omega (arith, long, small)
half-inside frame (suc zero) one two bytes into le small framed =
    let long = file-long 2 frame.slaves frame.capacity (suc zero) one two frame.last bytes framed.file in
    let equal = framed.file.equal in
    let half = framed.room in
    omega (arith, long, small, equal, half)
half-inside frame (suc (suc n)) one two bytes into le small framed = absurd (omega (arith, le))

-- ---- where an action writes

abbrev place_of : Option DiskNext → ℕ
place_of None = 0
place_of (Some (next.Write at bytes)) = at
place_of (Some (next.Gate at closed)) = at
place_of (Some other) = 0

-- the gate after the batches, and the byte after it
gate-inside : (frame : JournalFrame) (book : Book) (place : Place) (gate : ℕ) (rest beside bytes : List ℕ) → book.capacity ≡ frame.capacity → book.halves.at ≤ 1
    → IsFramed frame (half_of book.halves place) (spelt_batches WithGeneration (batches_in book.halves place) ++ (gate ∷ rest)) beside bytes → place_at book place + 1 ≤ length bytes
gate-inside frame book place gate rest beside bytes same le framed =
    let batches = spelt_batches WithGeneration (batches_in book.halves place) in
    let there = half-inside frame (half_of book.halves place) (batches ++ (gate ∷ rest)) beside bytes (length batches + 1) (half_small book.halves place le) (omega (arith, length-append batches (gate ∷ rest))) framed in
    omega (arith, there, place-at frame book place same)

module _ (frame : JournalFrame) (book : Book) (disk : Disk) (same : book.capacity ≡ frame.capacity) where
  opens-inside : (place : Place) (entries : List Entry) (out failed : Bool) → OpensGate frame book place entries out failed disk → place_at book place + 1 ≤ length disk.bytes
  opens-inside place entries true failed g = let h = g.1 in gate-inside frame book place g.0 h.rest h.beside disk.bytes same h.stands.at h.framed
  opens-inside place entries false false n = gate-inside frame book place n.gate n.rest n.beside disk.bytes same n.stands.at n.framed
  opens-inside place entries false true (inl n) = gate-inside frame book place n.gate n.rest n.beside disk.bytes same n.stands.at n.framed
  opens-inside place entries false true (inr g) = let h = g.1 in gate-inside frame book place g.0 h.rest h.beside disk.bytes same h.stands.at h.framed

  new-inside : (doing : Doing) (out failed : Bool) → DoingFits frame book doing out failed disk → place_of (action_of book doing) ≤ length disk.bytes
  new-inside Resting out failed f = omega arith
  new-inside (Payload place entries) out failed f =
      let h = f.2.1.1 in
      let batches = spelt_batches WithGeneration (batches_in book.halves place) in
      let shape : (batches ++ h.gate ∷ []) ++ (f.2.0 ++ h.rest) ≡ batches ++ (h.gate ∷ (f.2.0 ++ h.rest)) = append_assoc batches (h.gate ∷ []) (f.2.0 ++ h.rest) in
      gate-inside frame book place h.gate (f.2.0 ++ h.rest) h.beside disk.bytes same h.stands.at (subst (λ (l : List ℕ). IsFramed frame (half_of book.halves place) l h.beside disk.bytes) shape h.framed)
  new-inside (PayloadSync place entries) out failed f = omega arith
  new-inside (OpenGate place entries) out failed f = let there = opens-inside place entries out failed f.1 in omega (arith, there)
  new-inside (OpenSync place entries) out failed f = omega arith
  new-inside CloseGate out failed f =
      let h = f.2.1 in
      let there = half-inside frame book.halves.at (f.2.0 ∷ h.rest) h.newer disk.bytes 0 h.stands.at (omega arith) h.framed in
      omega (arith, there, half-at frame book book.halves.at same)
  new-inside CloseSync out failed f = omega arith
  new-inside FarGate out failed f = absurd f
  new-inside Mark out failed f = absurd f
  new-inside MarkSync out failed f = absurd f
  new-inside Version out failed f = absurd f
  new-inside VersionSync out failed f = absurd f

  -- ---- an old journal

  old-long : (version : ℕ) (first second : List ℕ) → IsVersioned frame version first second disk.bytes → length disk.bytes ≡ 8 + (length first + length second + length frame.last)
  old-long version first second v = file-long version frame.slaves frame.capacity 0 first second frame.last disk.bytes v.file

  -- its first half and the far gate are there
  before-inside : (form : Form) (mark : List ℕ) (far : ℕ) → BeforeVersion frame form mark far disk → (8 + room frame ≤ length disk.bytes) × (9 ≤ length disk.bytes)
  before-inside One mark far b =
      let e = b.0 in let half = e.versioned.room in let long = old-long 1 (e.gate ∷ (mark ++ e.first)) (far ∷ e.second) e.versioned in (omega (arith, long, half), omega (arith, long))
  before-inside Two mark far b = absurd b
  before-inside Moving mark far b =
      let e = b.4 in let half = e.versioned.room in let long = old-long b.0 (e.gate ∷ (mark ++ e.first)) (far ∷ e.second) e.versioned in (omega (arith, long, half), omega (arith, long))

  old-inside : (doing : Doing) → book.halves.at ≡ 0 → OldDoingFits frame book doing disk → place_of (action_of book doing) ≤ length disk.bytes
  old-inside Resting first f = omega arith
  old-inside (Payload place entries) first f = absurd f
  old-inside (PayloadSync place entries) first f = absurd f
  old-inside (OpenGate place entries) first f = absurd f
  old-inside (OpenSync place entries) first f = absurd f
  old-inside CloseGate first f =
      let h = f.2.1 in
      let long = old-long 1 (f.2.0 ∷ h.rest) h.second h.versioned in
      let there : half_at book book.halves.at ≡ half_at book 0 = ap (half_at book) first in
      omega (arith, long, there)
  old-inside CloseSync first f = omega arith
  old-inside FarGate first f = let there = before-inside book.form f.1.0 f.1.1 f.1.2 in omega (arith, there.0, half-at frame book 1 same)
  old-inside Mark first f =
      let b : BeforeVersion frame One f.2.0 0 disk = subst (λ (form : Form). BeforeVersion frame form f.2.0 0 disk) f.1 f.2.1 in
      let there = before-inside One f.2.0 0 b in omega (arith, there.1)
  old-inside MarkSync first f = omega arith
  old-inside Version first f = let e = f.1.1.emptied in let long = old-long f.1.0 _ _ e.versioned in omega (arith, long)
  old-inside VersionSync first f = omega arith

  form-inside : (form : Form) → FormFits form frame book disk → place_of (in_progress book) ≤ length disk.bytes
  form-inside One fits = old-inside book.doing (ap (λ (h : Halves). h.at) fits.halves) fits.holds
  form-inside Two fits = new-inside book.doing book.is_handed_out (is_some book.fault) fits
  form-inside Moving fits = old-inside book.doing (ap (λ (h : Halves). h.at) fits.halves) fits.holds

-- ---- what is handed out

module _ (frame : JournalFrame) (book : Book) (took : List Bool) (m : Machine) (old : Seen) (up : Up frame book old.state took m) where
  write-inside : (action : DiskNext) (at count : ℕ) → (disk_next book).0 ≡ action → IsAction action → begun_on (Some action) old.state.disk ≡ write_begun old.state.disk at count → place_of (Some action) ≤ length old.state.disk.bytes
  write-inside action at count is some begun =
      let later = (disk_next book).1 in
      let now = begun-up frame book took m old up action is in
      let o = out-of frame book took m old up action is some in
      let fits : JournalFits frame later (write_begun old.state.disk at count) = subst (JournalFits frame later) begun now.disk in
      subst (λ (a : Option DiskNext). place_of a ≤ length old.state.disk.bytes) o.1 (form-inside frame later (write_begun old.state.disk at count) now.line.capacity later.form fits)

  pub bytes-inside : (at : ℕ) (bytes : List ℕ) → (disk_next book).0 ≡ next.Write at bytes → at ≤ length old.state.disk.bytes
  bytes-inside at bytes is = write-inside (next.Write at bytes) at (length bytes) is tt refl

  pub gate-byte-inside : (at : ℕ) (closed : Bool) → (disk_next book).0 ≡ next.Gate at closed → at ≤ length old.state.disk.bytes
  gate-byte-inside at closed is = write-inside (next.Gate at closed) at 1 is tt refl
