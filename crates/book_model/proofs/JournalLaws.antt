-- Which journal an old file is.
use Rattle.std.proofs.Common.{◌≡◌, ◌≢◌, inl, inr, ℕ, zero, suc, ◌+◌, ◌-◌, ◌≤◌, List, [], ◌∷◌, ◌++◌, length, take, drop, refl, sym, ◌∙◌, ap, subst, arith, append_assoc, length-append, take-append-drop}
use Rattle.std.specs.List.{AllByRecursion}
use Rattle.std.proofs.lemmas.Bool.{cases_eq}
use Rattle.std.proofs.lemmas.List.{length-take-le}
use Rattle.std.proofs.Math.Seq.{take-append-add}
use Rattle.jrn_format.specs.declared.journal.Batch.{Batch}
use Rattle.jrn_format.specs.declared.journal.Form.{Form}
use Rattle.jrn_format.specs.declared.journal.Form.TheVariants.{One, Two, Moving}
use Rattle.jrn_format.specs.declared.journal.Spelling.TheVariants.{Plain}
use Rattle.jrn_format.specs.Batch.{IsWithin}
use Rattle.jrn_format.specs.Area.{IsClosed}
use Rattle.jrn_format.specs.Header.{header_bytes, IsCapacity, IsForm, HasArea}
use Rattle.jrn_format.specs.Journal.{AreHalves, HasLive, IsJournal}
use Rattle.jrn_format.proofs.MigrationLaws.{closed_live, none_live}
use Rattle.site_core.specs.Disk.{Disk, StopImage}
use Rattle.book_model.specs.Frame.{JournalFrame, room, IsJournalFrame}
use Rattle.book_model.proofs.StopLaws.{stop_none, between}
use Rattle.book_model.proofs.AppendLaws.{single}
use Rattle.book_model.specs.OldFile.{IsVersioned, after, area, mark_bytes, IsEmptied, OldAtRest, OldClosing, BeforeVersion, AtVersion}
use Rattle.book_model.proofs.RangeLaws.{torn-agrees}
use Rattle.book_model.proofs.EmptiedLaws.{head_of, all-torn, far-torn, version-torn}

take_first : (n x : ℕ) (xs : List ℕ) → 1 ≤ n → take n (x ∷ xs) ≡ x ∷ take (n - 1) xs
take_first zero x xs some = absurd (omega arith)
take_first (suc n) x xs some = ap (λ (k : ℕ). x ∷ take k xs) (omega arith)

pub closed-area : (frame : JournalFrame) (gate : ℕ) (rest second : List ℕ) → IsJournalFrame frame → gate ≢ 0xA5 → IsClosed (area frame (gate ∷ rest) second)
closed-area frame gate rest second is_frame closed =
    let most = is_frame.is_capacity in
    (gate, take (frame.capacity - 1) ((rest ++ second) ++ frame.last), closed, take_first frame.capacity gate ((rest ++ second) ++ frame.last) (omega (arith, most)))

module _ (frame : JournalFrame) (version : ℕ) (first second bytes : List ℕ) (is_frame : IsJournalFrame frame) (v : IsVersioned frame version first second bytes) where
  all : List ℕ
  all = after frame first second

  area-long : length (area frame first second) ≡ frame.capacity
  area-long = length-take-le frame.capacity (after frame first second)
      (omega (arith, is_frame.entire, v.room, v.file.equal, length-append (first ++ second) frame.last, length-append first second))

  -- the area is the two halves of version 2, and a byte more where its capacity is odd
  area-halves : AreHalves (area frame first second) first second
  area-halves =
      let n = frame.capacity - length (first ++ second) in
      let equal : length first ≡ length second = v.file.equal in
      let two : length (first ++ second) ≡ room frame + room frame = omega (arith, length-append first second, v.room, equal) in
      let cut : take frame.capacity (after frame first second) ≡ take (length (first ++ second) + n) (after frame first second) = ap (λ (k : ℕ). take k (after frame first second)) (omega (arith, two)) in
      let long : length (take n frame.last) ≡ n = length-take-le n frame.last (omega (arith, is_frame.entire, two)) in
      record {
        equal = equal;
        last = take n frame.last;
        odd = omega (arith, long, two);
        entire = cut ∙ take-append-add (first ++ second) frame.last n ∙ append_assoc first second (take n frame.last);
      }

  versioned-area : (sizes : List ℕ) (form : Form) → length sizes ≡ frame.slaves → IsForm version (after frame first second) form → HasArea bytes (length sizes) form (area frame first second)
  versioned-area sizes form count is_form =
      let most = is_frame.is_capacity in
      let split = sym (take-append-drop frame.capacity (after frame first second)) in
      record {
        version = version;
        rest = drop frame.capacity (after frame first second);
        header = record {
          slaves_fit = omega (arith, count, is_frame.slaves_fit);
          capacity_fits = omega (arith, area-long, most);
          spelt = v.file.is ∙ ap (λ (n : ℕ). header_bytes version n frame.capacity ++ after frame first second) (sym count)
              ∙ ap (λ (n : ℕ). header_bytes version (length sizes) n ++ after frame first second) (sym area-long)
              ∙ ap (λ (l : List ℕ). header_bytes version (length sizes) (length (area frame first second)) ++ l) split;
        };
        is_form = subst (λ (l : List ℕ). IsForm version l form) split is_form;
        capacity = subst IsCapacity (sym area-long) most;
      }

  pub versioned-journal : (sizes : List ℕ) (form : Form) (batches : List Batch) → length sizes ≡ frame.slaves → IsForm version (after frame first second) form → HasLive form (area frame first second) batches
      → AllByRecursion (IsWithin sizes) batches → IsJournal bytes sizes (record { form = form; batches = batches })
  versioned-journal sizes form batches count is_form lives within =
      record { area = area frame first second; has_area = versioned-area sizes form count is_form; live = lives; within = within }

-- ---- nothing is live

abbrev pub IsEmpty : (file sizes : List ℕ) → Form → Type 0
IsEmpty file sizes form = IsJournal file sizes (record { form = form; batches = [] })

module _ (frame : JournalFrame) (sizes : List ℕ) (is_frame : IsJournalFrame frame) (count : length sizes ≡ frame.slaves) where
  empty-one : (mark : List ℕ) (far : ℕ) (bytes : List ℕ) → IsEmptied frame 1 mark far bytes → IsEmpty bytes sizes One
  empty-one mark far bytes e =
      let first = e.gate ∷ (mark ++ e.first) in
      let second = far ∷ e.second in
      versioned-journal frame 1 first second bytes is_frame e.versioned sizes One [] count refl
      (closed_live Plain 0 (area frame first second) (closed-area frame e.gate (mark ++ e.first) second is_frame e.closed)) tt

  empty-moving : (version far : ℕ) (bytes : List ℕ) → version ≢ 1 → version ≢ 2 → IsEmptied frame version mark_bytes far bytes → IsEmpty bytes sizes Moving
  empty-moving version far bytes not_one not_two e =
      versioned-journal frame version (e.gate ∷ (mark_bytes ++ e.first)) (far ∷ e.second) bytes is_frame e.versioned sizes Moving [] count
      (not_one, not_two, (e.gate, (e.first ++ (far ∷ e.second)) ++ frame.last, e.closed, refl)) refl tt

  empty-two : (bytes : List ℕ) → IsEmptied frame 2 mark_bytes 0 bytes → IsEmpty bytes sizes Two
  empty-two bytes e =
      let first = e.gate ∷ (mark_bytes ++ e.first) in
      let second = 0 ∷ e.second in
      versioned-journal frame 2 first second bytes is_frame e.versioned sizes Two [] count refl
      (none_live (area frame first second) first second (area-halves frame 2 first second bytes is_frame e.versioned) (e.gate, mark_bytes ++ e.first, e.closed, refl) (0, e.second, λ zero. absurd cc, refl)) tt

  -- whatever the version byte is
  empty-any : (version : ℕ) (bytes : List ℕ) → IsEmptied frame version mark_bytes 0 bytes → (form : Form) × IsEmpty bytes sizes form
  empty-any version bytes e = elim (cases_eq version 1) [
    | inl one ↦ (One, empty-one mark_bytes 0 bytes (subst (λ (n : ℕ). IsEmptied frame n mark_bytes 0 bytes) one e))
    | inr not_one ↦ elim (cases_eq version 2) [
      | inl two ↦ (Two, empty-two bytes (subst (λ (n : ℕ). IsEmptied frame n mark_bytes 0 bytes) two e))
      | inr not_two ↦ (Moving, empty-moving version 0 bytes not_one not_two e)
    ]
  ]

  -- ---- each image that a power cut may leave

  pub before-image : (form : Form) (mark : List ℕ) (far : ℕ) (disk : Disk) (image : List ℕ) → BeforeVersion frame form mark far disk → StopImage disk image → IsEmpty image sizes form
  before-image One mark far disk image b stop =
      let t = all-torn frame 1 mark far disk.bytes b.0 image (torn-agrees 9 (room frame) disk image b.1 stop) in
      empty-one t.0 t.1 image t.2
  before-image Two mark far disk image b stop = absurd b
  before-image Moving mark far disk image b stop =
      let e = subst (λ (l : List ℕ). IsEmptied frame b.0 l far disk.bytes) b.3 b.4 in
      let t = far-torn frame b.0 mark_bytes far disk.bytes e image (torn-agrees (8 + room frame) 1 disk image b.5 stop) in
      empty-moving b.0 t.0 image b.1 b.2 t.1

  pub version-image : (version : ℕ) (disk : Disk) (image : List ℕ) → AtVersion frame version disk → StopImage disk image → (form : Form) × IsEmpty image sizes form
  version-image version disk image a stop =
      let t = version-torn frame version mark_bytes 0 disk.bytes a.emptied image (torn-agrees 1 1 disk image a.torn stop) in
      empty-any t.0 image t.1

  pub rest-image : (form : Form) (batches : List Batch) (disk : Disk) (image : List ℕ) → OldAtRest frame form batches disk → StopImage disk image → AllByRecursion (IsWithin sizes) batches
      → IsJournal image sizes (record { form = form; batches = batches })
  rest-image form batches disk image r stop within =
      subst (λ (b : List ℕ). IsJournal b sizes (record { form = form; batches = batches })) (sym (stop_none disk image r.synced stop))
      (versioned-journal frame r.version r.first r.second disk.bytes is_frame r.versioned sizes form batches count r.is_form r.live within)

  -- with the batches or without, as the gate is torn
  pub data Closes (image : List ℕ) (batches : List Batch) : Type 0 where
    stays : IsJournal image sizes (record { form = One; batches = batches }) → Closes image batches
    closes : IsEmpty image sizes One → Closes image batches

  pub closing-image : (batches : List Batch) (gate : ℕ) (disk : Disk) (image : List ℕ) → OldClosing frame batches gate disk → StopImage disk image → AllByRecursion (IsWithin sizes) batches → Closes image batches
  closing-image batches gate disk image c stop within =
      let back = (c.rest ++ c.second) ++ frame.last in
      let b = between (head_of frame 1) (gate ∷ []) back disk.bytes image c.versioned.file.is (torn-agrees 8 1 disk image c.torn stop) in
      let s = single b.middle b.long in
      let v : IsVersioned frame 1 (s.0 ∷ c.rest) c.second image = record {
        file = record { equal = c.versioned.file.equal; is = b.is ∙ ap (λ (m : List ℕ). head_of frame 1 ++ (m ++ back)) s.1 };
        room = c.versioned.room;
      } in
      elim (cases_eq s.0 0xA5) [
        | inl opened ↦ stays (versioned-journal frame 1 (0xA5 ∷ c.rest) c.second image is_frame (subst (λ (n : ℕ). IsVersioned frame 1 (n ∷ c.rest) c.second image) opened v) sizes One batches count refl c.live within)
        | inr closed ↦ closes (versioned-journal frame 1 (s.0 ∷ c.rest) c.second image is_frame v sizes One [] count refl
            (closed_live Plain 0 (area frame (s.0 ∷ c.rest) c.second) (closed-area frame s.0 c.rest c.second is_frame closed)) tt)
      ]
