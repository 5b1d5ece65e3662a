-- The header: it is read as the grammar says, and refused exactly where the grammar says so.
use Rattle.std.proofs.Common.{◌≡◌, ◌≢◌, ℕ, ◌<◌, ◌≤◌, Bool, true, false, cond, eqb, ltb, leb, ◌&&◌, List, [], ◌∷◌, ◌++◌, length, take, drop, slice_index, Result, Ok, Err, refl, sym, ap, subst, ◌∙◌, arith, inl, inr, ◌⊎◌}
use Rattle.std.specs.Int.{w16, w32, to_le_bytes, from_le_bytes}
use Rattle.std.proofs.lemmas.Bool.{eqb-true, eqb-false, eq-eqb, ne_eqb, ltb-true, ltb-false, lt-ltb, le-ltb, leb-true, leb-false, le-leb, lt-leb, and_parts, and_from, false_from_ne_true}
use Rattle.std.proofs.lemmas.List.{length-append, length-take, take-append-drop, take_at}
use Rattle.jrn_format.specs.declared.journal.Form.{Form}
use Rattle.jrn_format.specs.declared.journal.Form.TheVariants.{One, Two, Moving}
use Rattle.jrn_format.specs.declared.fault.JournalFault.{JournalFault}
use Rattle.jrn_format.specs.declared.fault.JournalFault.TheVariants.{NotAJournal, BadVersion, WrongLine, BadJournal}
use Rattle.jrn_format.specs.Header.{field_at, HasHeader, IsCapacity, IsMarked, IsForm, HasArea, HasNoArea}
use Rattle.jrn_format.specs.Header.HasNoArea.{no_header, other_version, other_line, other_capacity, cut_off}
use Rattle.jrn_format.specs.steps.Reading.{◌>>>◌, is_marked, is_capacity, form_of, area_after, area_of}
use Rattle.jrn_format.proofs.Numbers.{IsBytes, IsBytes-take, IsBytes-drop, wide16, wide32}
use Rattle.jrn_format.proofs.Areas.{bind_ok, ok_is}

-- ---- the mark

marked_gate : (b : Bool) (rest : Bool) → (cond b false true && rest) ≡ true → (b ≡ false) × (rest ≡ true)
marked_gate true rest e = absurd cc
marked_gate false rest e = (refl, e)

marked : (after : List ℕ) → is_marked after ≡ true → IsMarked after
marked (gate ∷ a ∷ b ∷ c ∷ d ∷ rest) e =
    let p3 = and_parts (cond (eqb gate 0xA5) false true && eqb a 0x4d && eqb b 0x49 && eqb c 0x47) (eqb d 0x32) e in
    let p2 = and_parts (cond (eqb gate 0xA5) false true && eqb a 0x4d && eqb b 0x49) (eqb c 0x47) p3.0 in
    let p1 = and_parts (cond (eqb gate 0xA5) false true && eqb a 0x4d) (eqb b 0x49) p2.0 in
    let p0 = marked_gate (eqb gate 0xA5) (eqb a 0x4d) p1.0 in
    let ea : a ≡ 0x4d = eqb-true a 0x4d p0.1 in
    let eb : b ≡ 0x49 = eqb-true b 0x49 p1.1 in
    let ec : c ≡ 0x47 = eqb-true c 0x47 p2.1 in
    let ed : d ≡ 0x32 = eqb-true d 0x32 p3.1 in
    (gate, rest, eqb-false gate 0xA5 p0.0, cc)
marked short e = absurd cc

mark_again : (after : List ℕ) → IsMarked after → is_marked after ≡ true
mark_again after h =
    let closed : eqb h.0 0xA5 ≡ false = ne_eqb h.0 0xA5 h.2 in
    ap is_marked h.3 ∙ rw closed refl

-- ---- the form

chosen_form : (version : ℕ) (after : List ℕ) (b c d : Bool) (form : Form) → eqb version 1 ≡ b → eqb version 2 ≡ c → is_marked after ≡ d
    → cond {A = Result Form JournalFault} b (Ok One) (cond c (Ok Two) (cond d (Ok Moving) (Err (BadVersion version)))) ≡ Ok form → IsForm version after form
chosen_form version after true c d form p q r e = subst (IsForm version after) (ok_is One form e) (eqb-true version 1 p)
chosen_form version after false true d form p q r e = subst (IsForm version after) (ok_is Two form e) (eqb-true version 2 q)
chosen_form version after false false true form p q r e = subst (IsForm version after) (ok_is Moving form e) (eqb-false version 1 p, eqb-false version 2 q, marked after r)
chosen_form version after false false false form p q r e = absurd cc

form_is : (version : ℕ) (after : List ℕ) (form : Form) → form_of version after ≡ Ok form → IsForm version after form
unfolding form_of
form_is version after form e = chosen_form version after (eqb version 1) (eqb version 2) (is_marked after) form refl refl refl e

form_again : (version : ℕ) (after : List ℕ) (form : Form) → IsForm version after form → form_of version after ≡ Ok form
unfolding form_of
form_again version after One h = rw (eq-eqb version 1 h) refl
form_again version after Two h = let not_one : eqb version 1 ≡ false = ne_eqb version 1 (omega (arith, h)) in rw (not_one, eq-eqb version 2 h) refl
form_again version after Moving h = rw (ne_eqb version 1 h.0, ne_eqb version 2 h.1, mark_again after h.2) refl

form_none : (version : ℕ) (after : List ℕ) → ((form : Form) → IsForm version after form → ⊥) → form_of version after ≡ Err (BadVersion version)
unfolding form_of
form_none version after none =
    let not_one : eqb version 1 ≡ false = ne_eqb version 1 (none One) in
    let not_two : eqb version 2 ≡ false = ne_eqb version 2 (none Two) in
    let not_marked : is_marked after ≡ false = false_from_ne_true (is_marked after) (λ e. none Moving (eqb-false version 1 not_one, eqb-false version 2 not_two, marked after e)) in
    rw (not_one, not_two, not_marked) refl

fault_of : (version : ℕ) (b c d : Bool) (fault : JournalFault) → cond {A = Result Form JournalFault} b (Ok One) (cond c (Ok Two) (cond d (Ok Moving) (Err (BadVersion version)))) ≡ Err fault → fault ≡ BadVersion version
fault_of version true c d fault e = absurd cc
fault_of version false true d fault e = absurd cc
fault_of version false false true fault e = absurd cc
fault_of version false false false fault e = cc

form_fault : (version : ℕ) (after : List ℕ) (fault : JournalFault) → form_of version after ≡ Err fault → fault ≡ BadVersion version
unfolding form_of
form_fault version after fault e = fault_of version (eqb version 1) (eqb version 2) (is_marked after) fault e

-- ---- the fields

-- a file that is long enough, with an open gate, has a header
header_here : (file : List ℕ) → IsBytes file → 8 ≤ length file → slice_index file 0 ≡ 0xA5 → HasHeader file (slice_index file 1) (field_at w16 2 file) (field_at w32 4 file) (drop 8 file)
header_here (gate ∷ version ∷ s0 ∷ s1 ∷ c0 ∷ c1 ∷ c2 ∷ c3 ∷ after) good long is_open =
    let file : List ℕ = gate ∷ version ∷ s0 ∷ s1 ∷ c0 ∷ c1 ∷ c2 ∷ c3 ∷ after in
    let two : IsBytes (s0 ∷ s1 ∷ []) = IsBytes-take 2 (drop 2 file) (IsBytes-drop 2 file good) in
    let four : IsBytes (c0 ∷ c1 ∷ c2 ∷ c3 ∷ []) = IsBytes-take 4 (drop 4 file) (IsBytes-drop 4 file good) in
    let slaves : to_le_bytes w16 (from_le_bytes w16 (s0 ∷ s1 ∷ [])) ≡ s0 ∷ s1 ∷ [] = wide16.back (s0 ∷ s1 ∷ []) refl two in
    let capacity : to_le_bytes w32 (from_le_bytes w32 (c0 ∷ c1 ∷ c2 ∷ c3 ∷ [])) ≡ c0 ∷ c1 ∷ c2 ∷ c3 ∷ [] = wide32.back (c0 ∷ c1 ∷ c2 ∷ c3 ∷ []) refl four in
    record {
      slaves_fit = wide16.below (s0 ∷ s1 ∷ []) two;
      capacity_fits = wide32.below (c0 ∷ c1 ∷ c2 ∷ c3 ∷ []) four;
      spelt = ap (λ (g : ℕ). g ∷ version ∷ s0 ∷ s1 ∷ c0 ∷ c1 ∷ c2 ∷ c3 ∷ after) is_open
          ∙ ap (λ (s : List ℕ). 0xA5 ∷ version ∷ s ++ (c0 ∷ c1 ∷ c2 ∷ c3 ∷ after)) (sym slaves)
          ∙ ap (λ (c : List ℕ). (0xA5 ∷ version ∷ to_le_bytes w16 (from_le_bytes w16 (s0 ∷ s1 ∷ [])) ++ c) ++ after) (sym capacity);
    }
header_here short good long is_open = absurd (omega arith)

-- what a file with a header answers
area_of-header : (file : List ℕ) (slaves version stated capacity : ℕ) (after : List ℕ) → HasHeader file version stated capacity after
    → area_of file slaves ≡ (form_of version after >>> area_after (length file) slaves stated capacity after)
unfolding area_of
area_of-header file slaves version stated capacity after h =
    let s : from_le_bytes w16 (to_le_bytes w16 stated) ≡ stated = wide16.again stated h.slaves_fit in
    let c : from_le_bytes w32 (to_le_bytes w32 capacity) ≡ capacity = wide32.again capacity h.capacity_fits in
    let long : ltb (length file) 8 ≡ false = le-ltb (length file) 8 (omega (arith, ap length h.spelt)) in
    let opened : slice_index file 0 ≡ 0xA5 = ap (λ (f : List ℕ). slice_index f 0) h.spelt in
    let is_version : slice_index file 1 ≡ version = ap (λ (f : List ℕ). slice_index f 1) h.spelt in
    let is_stated : field_at w16 2 file ≡ stated = ap (field_at w16 2) h.spelt ∙ s in
    let stands : field_at w32 4 file ≡ capacity = ap (field_at w32 4) h.spelt ∙ c in
    let is_after : drop 8 file ≡ after = ap (drop 8) h.spelt in
    rw (long, opened, is_version, is_stated, stands, is_after) refl

-- ---- what the header says of the area, judged in order

chosen_after : {A : Type 0} (b c d : Bool) (x y : A) (one two three : JournalFault) → cond b (cond c (cond d (Ok x) (Err one)) (Err two)) (Err three) ≡ Ok y
    → (b ≡ true) × (c ≡ true) × (d ≡ true) × (x ≡ y)
chosen_after true true true x y one two three e = (refl, refl, refl, cc)
chosen_after true true false x y one two three e = absurd cc
chosen_after true false d x y one two three e = absurd cc
chosen_after false c d x y one two three e = absurd cc

refused_after : {A : Type 0} (b c d : Bool) (x : A) (one two three fault : JournalFault) → cond b (cond c (cond d (Ok x) (Err one)) (Err two)) (Err three) ≡ Err fault
    → ((b ≡ false) × (fault ≡ three)) ⊎ (((b ≡ true) × (c ≡ false) × (fault ≡ two)) ⊎ ((b ≡ true) × (c ≡ true) × (d ≡ false) × (fault ≡ one)))
refused_after true true true x one two three fault e = absurd cc
refused_after true true false x one two three fault e = inr (inr (refl, refl, refl, cc))
refused_after true false d x one two three fault e = inr (inl (refl, refl, cc))
refused_after false c d x one two three fault e = inl (refl, cc)

capacity_in : (capacity : ℕ) → is_capacity capacity ≡ true → IsCapacity capacity
capacity_in capacity e = let parts = and_parts (leb 4096 capacity) (leb capacity 4194304) e in (leb-true 4096 capacity parts.0, leb-true capacity 4194304 parts.1)

capacity_is : (capacity : ℕ) → IsCapacity capacity → is_capacity capacity ≡ true
capacity_is capacity h = and_from (leb 4096 capacity) (leb capacity 4194304) (le-leb 4096 capacity h.0) (le-leb capacity 4194304 h.1)

area_made : (file : List ℕ) (slaves version stated capacity : ℕ) (after : List ℕ) (form : Form) → HasHeader file version stated capacity after → IsForm version after form
    → stated ≡ slaves → IsCapacity capacity → capacity ≤ length after → HasArea file slaves form (take capacity after)
area_made file slaves version stated capacity after form header is_form line limits room =
    let len : length (take capacity after) ≡ capacity = omega (arith, length-take capacity after) in
    let parts : take capacity after ++ drop capacity after ≡ after = take-append-drop capacity after in
    let of_line : HasHeader file version slaves capacity after = subst (λ (n : ℕ). HasHeader file version n capacity after) line header in
    let split : HasHeader file version slaves capacity (take capacity after ++ drop capacity after) = subst (λ (t : List ℕ). HasHeader file version slaves capacity t) (sym parts) of_line in
    record {
      version = version;
      rest = drop capacity after;
      header = subst (λ (n : ℕ). HasHeader file version slaves n (take capacity after ++ drop capacity after)) (sym len) split;
      is_form = subst (λ (t : List ℕ). IsForm version t form) (sym parts) is_form;
      capacity = subst IsCapacity (sym len) limits;
    }

after_is : (file : List ℕ) (slaves version stated capacity : ℕ) (after : List ℕ) (form : Form) (x : Form × List ℕ) → HasHeader file version stated capacity after → IsForm version after form
    → area_after (length file) slaves stated capacity after form ≡ Ok x → HasArea file slaves x.0 x.1
unfolding area_after
after_is file slaves version stated capacity after form x header is_form e =
    let made : Form × List ℕ = (form, take capacity after) in
    let p = chosen_after (eqb stated slaves) (is_capacity capacity) (leb capacity (length after)) made x (BadJournal (length file)) (BadJournal 4) WrongLine e in
    subst (λ (y : Form × List ℕ). HasArea file slaves y.0 y.1) p.3
    (area_made file slaves version stated capacity after form header is_form (eqb-true stated slaves p.0) (capacity_in capacity p.1) (leb-true capacity (length after) p.2))

after_fault : (file : List ℕ) (slaves version stated capacity : ℕ) (after : List ℕ) (form : Form) (fault : JournalFault) → HasHeader file version stated capacity after → IsForm version after form
    → area_after (length file) slaves stated capacity after form ≡ Err fault → HasNoArea file slaves fault
unfolding area_after
after_fault file slaves version stated capacity after form fault header is_form e =
    let made : Form × List ℕ = (form, take capacity after) in
    let of_line : stated ≡ slaves → HasHeader file version slaves capacity after = λ line. subst (λ (n : ℕ). HasHeader file version n capacity after) line header in
    elim (refused_after (eqb stated slaves) (is_capacity capacity) (leb capacity (length after)) made (BadJournal (length file)) (BadJournal 4) WrongLine fault e) [
      | inl p ↦ other_line version stated capacity after form header is_form (eqb-false stated slaves p.0) p.1
      | inr q ↦ elim q [
        | inl p ↦ other_capacity version capacity after form (of_line (eqb-true stated slaves p.0)) is_form (λ h. not_both (capacity_is capacity h) p.1) p.2
        | inr p ↦ cut_off version capacity after form (of_line (eqb-true stated slaves p.0)) is_form (capacity_in capacity p.1) (leb-false capacity (length after) p.2) p.3
      ]
    ]
  where
    not_both : {b : Bool} → b ≡ true → b ≡ false → ⊥
    not_both h k = cc

-- ---- the whole

-- A file that is long enough and has an open gate, or none of these.
opened_file : {A : Type 0} (b c : Bool) (r : Result A JournalFault) (x : A) → cond b (Err NotAJournal) (cond c r (Err NotAJournal)) ≡ Ok x → (b ≡ false) × (c ≡ true) × (r ≡ Ok x)
opened_file true c r x e = absurd cc
opened_file false true r x e = (refl, refl, e)
opened_file false false r x e = absurd cc

closed_file : {A : Type 0} (b c : Bool) (r : Result A JournalFault) (fault : JournalFault) → cond b (Err NotAJournal) (cond c r (Err NotAJournal)) ≡ Err fault
    → ((b ≡ true) × (fault ≡ NotAJournal)) ⊎ (((c ≡ false) × (fault ≡ NotAJournal)) ⊎ ((b ≡ false) × (c ≡ true) × (r ≡ Err fault)))
closed_file true c r fault e = inl (refl, cc)
closed_file false true r fault e = inr (inr (refl, refl, e))
closed_file false false r fault e = inr (inl (refl, cc))

pub area_is : (file : List ℕ) (slaves : ℕ) (x : Form × List ℕ) → IsBytes file → area_of file slaves ≡ Ok x → HasArea file slaves x.0 x.1
unfolding area_of
area_is file slaves x good e =
    let version = slice_index file 1 in
    let after = drop 8 file in
    let p = opened_file (ltb (length file) 8) (eqb (slice_index file 0) 0xA5) (form_of version after >>> area_after (length file) slaves (field_at w16 2 file) (field_at w32 4 file) after) x e in
    let header = header_here file good (ltb-false (length file) 8 p.0) (eqb-true (slice_index file 0) 0xA5 p.1) in
    let form = bind_ok (form_of version after) (area_after (length file) slaves (field_at w16 2 file) (field_at w32 4 file) after) x p.2 in
    after_is file slaves version (field_at w16 2 file) (field_at w32 4 file) after form.0 x header (form_is version after form.0 form.1) form.2

formed_fault : (file : List ℕ) (slaves version stated capacity : ℕ) (after : List ℕ) (fault : JournalFault) (read : Result Form JournalFault) → HasHeader file version stated capacity after
    → form_of version after ≡ read → (read >>> area_after (length file) slaves stated capacity after) ≡ Err fault → HasNoArea file slaves fault
formed_fault file slaves version stated capacity after fault (Ok form) header e h =
    after_fault file slaves version stated capacity after form fault header (form_is version after form e) h
formed_fault file slaves version stated capacity after fault (Err other) header e h =
    let same : other ≡ fault = cc in
    other_version version stated capacity after header (λ form is. never form is e) (sym same ∙ form_fault version after other e)
  where
    never : (form : Form) → IsForm version after form → form_of version after ≡ Err other → ⊥
    never form is e = let found = form_again version after form is in let both = sym found ∙ e in cc

pub area_fault : (file : List ℕ) (slaves : ℕ) (fault : JournalFault) → IsBytes file → area_of file slaves ≡ Err fault → HasNoArea file slaves fault
unfolding area_of
area_fault file slaves fault good e =
    let version = slice_index file 1 in
    let after = drop 8 file in
    elim (closed_file (ltb (length file) 8) (eqb (slice_index file 0) 0xA5) (form_of version after >>> area_after (length file) slaves (field_at w16 2 file) (field_at w32 4 file) after) fault e) [
      | inl p ↦ no_header (inl (ltb-true (length file) 8 p.0)) p.1
      | inr q ↦ elim q [
        | inl p ↦ no_header (inr (eqb-false (slice_index file 0) 0xA5 p.0)) p.1
        | inr p ↦ formed_fault file slaves version (field_at w16 2 file) (field_at w32 4 file) after fault (form_of version after)
            (header_here file good (ltb-false (length file) 8 p.0) (eqb-true (slice_index file 0) 0xA5 p.1)) refl p.2
      ]
    ]

-- ---- the other way round

pub area_again : (file : List ℕ) (slaves : ℕ) (form : Form) (area : List ℕ) → HasArea file slaves form area → area_of file slaves ≡ Ok (form, area)
unfolding area_after
area_again file slaves form area h =
    let room : leb (length area) (length (area ++ h.rest)) ≡ true = le-leb _ _ (omega (arith, length-append area h.rest)) in
    area_of-header file slaves h.version slaves (length area) (area ++ h.rest) h.header
    ∙ ap (λ r. r >>> area_after (length file) slaves slaves (length area) (area ++ h.rest)) (form_again h.version (area ++ h.rest) form h.is_form)
    ∙ rw (eq-eqb slaves slaves refl, capacity_is (length area) h.capacity, room, take_at area h.rest (length area) refl) refl

closed_either : {A : Type 0} (b : Bool) (r : Result A JournalFault) → cond b (Err NotAJournal) (cond false r (Err NotAJournal)) ≡ Err NotAJournal
closed_either true r = refl
closed_either false r = refl

not_opened : (file : List ℕ) (slaves : ℕ) → (length file < 8) ⊎ (slice_index file 0 ≢ 0xA5) → area_of file slaves ≡ Err NotAJournal
unfolding area_of
not_opened file slaves (inl short) = rw (lt-ltb (length file) 8 short) refl
not_opened file slaves (inr gate) = rw (ne_eqb (slice_index file 0) 0xA5 gate) (closed_either (ltb (length file) 8) (form_of (slice_index file 1) (drop 8 file) >>> area_after (length file) slaves (field_at w16 2 file) (field_at w32 4 file) (drop 8 file)))

pub fault_again : (file : List ℕ) (slaves : ℕ) (fault : JournalFault) → HasNoArea file slaves fault → area_of file slaves ≡ Err fault
unfolding area_after
fault_again file slaves fault (no_header why is) = not_opened file slaves why ∙ ap (λ (f : JournalFault). Err f) (sym is)
fault_again file slaves fault (other_version version stated capacity after header none is) =
    area_of-header file slaves version stated capacity after header
    ∙ ap (λ r. r >>> area_after (length file) slaves stated capacity after) (form_none version after none) ∙ ap (λ (f : JournalFault). Err f) (sym is)
fault_again file slaves fault (other_line version stated capacity after form header is_form line is) =
    area_of-header file slaves version stated capacity after header
    ∙ ap (λ r. r >>> area_after (length file) slaves stated capacity after) (form_again version after form is_form)
    ∙ rw (ne_eqb stated slaves line) (ap (λ (f : JournalFault). Err f) (sym is))
fault_again file slaves fault (other_capacity version capacity after form header is_form limits is) =
    let outside : is_capacity capacity ≡ false = false_from_ne_true _ (λ e. limits (capacity_in capacity e)) in
    area_of-header file slaves version slaves capacity after header
    ∙ ap (λ r. r >>> area_after (length file) slaves slaves capacity after) (form_again version after form is_form)
    ∙ rw (eq-eqb slaves slaves refl, outside) (ap (λ (f : JournalFault). Err f) (sym is))
fault_again file slaves fault (cut_off version capacity after form header is_form limits short is) =
    area_of-header file slaves version slaves capacity after header
    ∙ ap (λ r. r >>> area_after (length file) slaves slaves capacity after) (form_again version after form is_form)
    ∙ rw (eq-eqb slaves slaves refl, capacity_is capacity limits, lt-leb capacity (length after) short) (ap (λ (f : JournalFault). Err f) (sym is))
