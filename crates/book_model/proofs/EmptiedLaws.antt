-- A file in which nothing is live, as the mark, the far gate and the version byte are written or torn.
use Rattle.std.proofs.Common.{◌≡◌, ℕ, ◌+◌, List, [], ◌∷◌, ◌++◌, length, take, drop, refl, sym, ◌∙◌, ap, subst, arith, append_assoc, length-append, length-drop, take-append-drop}
use Rattle.std.proofs.lemmas.List.{length-take-le}
use Rattle.jrn_format.specs.Header.{header_bytes}
use Rattle.jrn_format.proofs.FileLaws.{changed_bytes}
use Rattle.site_core.specs.Disk.{overlaid}
use Rattle.book_model.specs.Frame.{JournalFrame, room}
use Rattle.book_model.proofs.StopLaws.{AgreesOutside, between}
use Rattle.book_model.proofs.AppendLaws.{single}
use Rattle.book_model.specs.OldFile.{IsVersioned, IsEmptied}

abbrev pub head_of : JournalFrame → ℕ → List ℕ
head_of frame version = header_bytes version frame.slaves frame.capacity

pub head_long : (frame : JournalFrame) (version : ℕ) → length (head_of frame version) ≡ 8
head_long frame version = refl

pub versioned-long : (frame : JournalFrame) (version : ℕ) (first second bytes : List ℕ) → IsVersioned frame version first second bytes → length bytes ≡ 8 + (room frame + room frame + length frame.last)
versioned-long frame version first second bytes v =
    omega (arith, ap length v.file.is, head_long frame version, length-append (head_of frame version) ((first ++ second) ++ frame.last), length-append (first ++ second) frame.last, length-append first second, v.file.equal, v.room)

-- ---- what is before and after the mark and the far gate

flat-mark : (head : List ℕ) (gate : ℕ) (mark first : List ℕ) (far : ℕ) (second last : List ℕ)
    → head ++ (((gate ∷ (mark ++ first)) ++ (far ∷ second)) ++ last) ≡ (head ++ gate ∷ []) ++ (mark ++ (first ++ (far ∷ (second ++ last))))
flat-mark head gate mark first far second last = simp append_assoc refl

flat-far : (head : List ℕ) (gate : ℕ) (mark first : List ℕ) (far : ℕ) (second last : List ℕ)
    → head ++ (((gate ∷ (mark ++ first)) ++ (far ∷ second)) ++ last) ≡ (head ++ (gate ∷ (mark ++ first))) ++ ((far ∷ []) ++ (second ++ last))
flat-far head gate mark first far second last = simp append_assoc refl

flat-all : (head : List ℕ) (gate : ℕ) (mark first : List ℕ) (far : ℕ) (second last : List ℕ)
    → head ++ (((gate ∷ (mark ++ first)) ++ (far ∷ second)) ++ last) ≡ (head ++ gate ∷ []) ++ ((mark ++ (first ++ far ∷ [])) ++ (second ++ last))
flat-all head gate mark first far second last = simp append_assoc refl

-- the bytes of a mark, those after it, and a far gate
record Parts (count : ℕ) (middle : List ℕ) : Type 0 where
  pub mark : List ℕ
  pub first : List ℕ
  pub far : ℕ
  pub four : length mark ≡ 4
  pub long : length first ≡ count
  pub is : middle ≡ mark ++ (first ++ far ∷ [])

parts : (n : ℕ) (middle : List ℕ) → length middle ≡ 4 + (n + 1) → Parts n middle
parts n middle size =
    let tail_long : length (drop 4 middle) ≡ n + 1 = omega (arith, length-drop 4 middle, size) in
    let s = single (drop n (drop 4 middle)) (omega (arith, length-drop n (drop 4 middle), tail_long)) in
    record {
      mark = take 4 middle;
      first = take n (drop 4 middle);
      far = s.0;
      four = length-take-le 4 middle (omega (arith, size));
      long = length-take-le n (drop 4 middle) (omega (arith, tail_long));
      is = sym (take-append-drop 4 middle) ∙ ap (λ (t : List ℕ). take 4 middle ++ t) (sym (take-append-drop n (drop 4 middle)) ∙ ap (λ (t : List ℕ). take n (drop 4 middle) ++ t) s.1);
    }

parts-flat : (head : List ℕ) (gate : ℕ) (middle mark first : List ℕ) (far : ℕ) (second last image : List ℕ) → image ≡ (head ++ gate ∷ []) ++ (middle ++ (second ++ last)) → middle ≡ mark ++ (first ++ far ∷ [])
    → image ≡ head ++ (((gate ∷ (mark ++ first)) ++ (far ∷ second)) ++ last)
parts-flat head gate middle mark first far second last image is split =
    is ∙ ap (λ (m : List ℕ). (head ++ gate ∷ []) ++ (m ++ (second ++ last))) split ∙ sym (flat-all head gate mark first far second last)

module _ (frame : JournalFrame) (version : ℕ) (mark : List ℕ) (far : ℕ) (bytes : List ℕ) (e : IsEmptied frame version mark far bytes) where
  -- a file that differs in the mark alone
  with-mark : (over image : List ℕ) → length over ≡ 4 → image ≡ (head_of frame version ++ e.gate ∷ []) ++ (over ++ (e.first ++ (far ∷ (e.second ++ frame.last)))) → IsEmptied frame version over far image
  with-mark over image four is =
      let same : length (e.gate ∷ (over ++ e.first)) ≡ length (e.gate ∷ (mark ++ e.first)) = omega (arith, four, e.four, length-append over e.first, length-append mark e.first) in
      record {
        gate = e.gate;
        first = e.first;
        second = e.second;
        closed = e.closed;
        four = four;
        versioned = record {
          file = record { equal = same ∙ e.versioned.file.equal; is = is ∙ sym (flat-mark (head_of frame version) e.gate over e.first far e.second frame.last) };
          room = same ∙ e.versioned.room;
        };
      }

  -- in the far gate alone
  with-far : (over : ℕ) (image : List ℕ) → image ≡ (head_of frame version ++ (e.gate ∷ (mark ++ e.first))) ++ ((over ∷ []) ++ (e.second ++ frame.last)) → IsEmptied frame version mark over image
  with-far over image is = record {
    gate = e.gate;
    first = e.first;
    second = e.second;
    closed = e.closed;
    four = e.four;
    versioned = record {
      file = record { equal = e.versioned.file.equal; is = is ∙ sym (flat-far (head_of frame version) e.gate mark e.first over e.second frame.last) };
      room = e.versioned.room;
    };
  }

  mark-is : bytes ≡ (head_of frame version ++ e.gate ∷ []) ++ (mark ++ (e.first ++ (far ∷ (e.second ++ frame.last))))
  mark-is = e.versioned.file.is ∙ flat-mark (head_of frame version) e.gate mark e.first far e.second frame.last

  far-is : bytes ≡ (head_of frame version ++ (e.gate ∷ (mark ++ e.first))) ++ ((far ∷ []) ++ (e.second ++ frame.last))
  far-is = e.versioned.file.is ∙ flat-far (head_of frame version) e.gate mark e.first far e.second frame.last

  far-place : length (head_of frame version ++ (e.gate ∷ (mark ++ e.first))) ≡ 8 + room frame
  far-place = omega (arith, length-append (head_of frame version) (e.gate ∷ (mark ++ e.first)), head_long frame version, e.versioned.room)

  -- ---- written

  pub mark-written : (over : List ℕ) → length over ≡ 4 → IsEmptied frame version over far (overlaid bytes 9 over)
  mark-written over four = with-mark over (overlaid bytes 9 over) four
      (changed_bytes bytes (head_of frame version ++ e.gate ∷ []) mark over (e.first ++ (far ∷ (e.second ++ frame.last))) mark-is (four ∙ sym e.four))

  pub far-written : (over : ℕ) → IsEmptied frame version mark over (overlaid bytes (8 + room frame) (over ∷ []))
  far-written over =
      let front = head_of frame version ++ (e.gate ∷ (mark ++ e.first)) in
      with-far over (overlaid bytes (8 + room frame) (over ∷ []))
      (ap (λ (n : ℕ). overlaid bytes n (over ∷ [])) (sym far-place) ∙ changed_bytes bytes front (far ∷ []) (over ∷ []) (e.second ++ frame.last) far-is refl)

  pub version-written : (over : ℕ) → IsEmptied frame over mark far (overlaid bytes 1 (over ∷ []))
  version-written over = record {
    gate = e.gate;
    first = e.first;
    second = e.second;
    closed = e.closed;
    four = e.four;
    versioned = record {
      file = record { equal = e.versioned.file.equal; is = ap (λ (b : List ℕ). overlaid b 1 (over ∷ [])) e.versioned.file.is };
      room = e.versioned.room;
    };
  }

  -- ---- torn

  pub mark-torn : (image : List ℕ) → AgreesOutside bytes 9 4 image → (torn : List ℕ) × IsEmptied frame version torn far image
  mark-torn image agrees =
      let back = e.first ++ (far ∷ (e.second ++ frame.last)) in
      let b = between (head_of frame version ++ e.gate ∷ []) mark back bytes image mark-is (subst (λ (n : ℕ). AgreesOutside bytes 9 n image) (sym e.four) agrees) in
      (b.middle, with-mark b.middle image (b.long ∙ e.four) b.is)

  pub far-torn : (image : List ℕ) → AgreesOutside bytes (8 + room frame) 1 image → (torn : ℕ) × IsEmptied frame version mark torn image
  far-torn image agrees =
      let front = head_of frame version ++ (e.gate ∷ (mark ++ e.first)) in
      let back = e.second ++ frame.last in
      let b = between front (far ∷ []) back bytes image far-is (subst (λ (n : ℕ). AgreesOutside bytes n 1 image) (sym far-place) agrees) in
      let s = single b.middle b.long in
      (s.0, with-far s.0 image (b.is ∙ ap (λ (m : List ℕ). front ++ (m ++ back)) s.1))

  pub version-torn : (image : List ℕ) → AgreesOutside bytes 1 1 image → (torn : ℕ) × IsEmptied frame torn mark far image
  version-torn image agrees =
      let back = drop 2 (head_of frame version) ++ (((e.gate ∷ (mark ++ e.first)) ++ (far ∷ e.second)) ++ frame.last) in
      let b = between (0xA5 ∷ []) (version ∷ []) back bytes image e.versioned.file.is agrees in
      let s = single b.middle b.long in (
        s.0,
        record {
          gate = e.gate;
          first = e.first;
          second = e.second;
          closed = e.closed;
          four = e.four;
          versioned = record {
            file = record { equal = e.versioned.file.equal; is = b.is ∙ ap (λ (m : List ℕ). 0xA5 ∷ (m ++ back)) s.1 };
            room = e.versioned.room;
          };
        },
      )

  -- all bytes after the first gate, up to the far gate
  pub all-torn : (image : List ℕ) → AgreesOutside bytes 9 (room frame) image → (torn : List ℕ) × (gate : ℕ) × IsEmptied frame version torn gate image
  all-torn image agrees =
      let back = e.second ++ frame.last in
      let long : length (mark ++ (e.first ++ far ∷ [])) ≡ room frame = omega (arith, length-append mark (e.first ++ far ∷ []), length-append e.first (far ∷ []), length-append mark e.first, e.versioned.room) in
      let b = between (head_of frame version ++ e.gate ∷ []) (mark ++ (e.first ++ far ∷ [])) back bytes image (e.versioned.file.is ∙ flat-all (head_of frame version) e.gate mark e.first far e.second frame.last)
      (subst (λ (n : ℕ). AgreesOutside bytes 9 n image) (sym long) agrees) in
      let p = parts (length e.first) b.middle (omega (arith, b.long, long, length-append mark e.first, e.four, e.versioned.room)) in
      let same : length (e.gate ∷ (p.mark ++ p.first)) ≡ length (e.gate ∷ (mark ++ e.first)) = omega (arith, p.four, p.long, e.four, length-append p.mark p.first, length-append mark e.first) in (
        p.mark,
        p.far,
        record {
          gate = e.gate;
          first = p.first;
          second = e.second;
          closed = e.closed;
          four = p.four;
          versioned = record {
            file = record { equal = same ∙ e.versioned.file.equal; is = parts-flat (head_of frame version) e.gate b.middle p.mark p.first p.far e.second frame.last image b.is p.is };
            room = same ∙ e.versioned.room;
          };
        },
      )
