-- Runs of equal process data cycles.
use Rattle.std.proofs.Common.{◌≡◌, ◌≢◌, ◌∙◌, ◌<◌, ◌==◌, ◌+◌, ◌-◌, ℕ, zero, suc, List, [], ◌∷◌, ◌++◌, length, replicate, refl, sym, ap, subst, arith, Some, ◌⊎◌, inl, inr, append_assoc, append-nil, length-append}
use Rattle.std.specs.Prelude.{◌&&◌, Bool, true, false, slice_get, if◌then◌else◌}
use Rattle.std.proofs.lemmas.Bool.{eq-eqb}
use Rattle.std.proofs.lemmas.Bool.Decides.{eqb_tells}
use Rattle.std.proofs.lemmas.List.{replicate_more}
use Rattle.station_jobs.specs.declared.cycle.CycleNote.{CycleNote}
use Rattle.station_jobs.specs.declared.cycle_notes.Run.{Run}
use Rattle.station_jobs.specs.Runs.{AreSeparate, BeginsSeparate, expanded, is_full, spare_after}

-- ---- the last run

full-at : (runs : List Run) (n : ℕ) (last : Run) → length runs ≡ suc n → slice_get runs n ≡ Some last
    → is_full runs ≡ (last.again == 18446744073709551615)
full-at [] n last count is = absurd (omega arith)
full-at (one ∷ []) zero last count is = cc
full-at (one ∷ []) (suc n) last count is = absurd (omega arith)
full-at (one ∷ next ∷ runs) zero last count is = absurd (omega arith)
full-at (one ∷ next ∷ runs) (suc n) last count is = full-at (next ∷ runs) n last (omega arith) is

pub full-last : (runs : List Run) (last : Run) → slice_get runs (length runs - 1) ≡ Some last → is_full runs ≡ (last.again == 18446744073709551615)
full-last [] last is = cc
full-last (one ∷ runs) last is =
    let n : suc (length runs) - 1 ≡ length runs = omega arith in
    full-at (one ∷ runs) (length runs) last refl (rw n at is)

pub full-after : (runs : List Run) (last : Run) → is_full (runs ++ last ∷ []) ≡ (last.again == 18446744073709551615)
full-after [] last = refl
full-after (one ∷ []) last = refl
full-after (one ∷ next ∷ runs) last = full-after (next ∷ runs) last

-- ---- one more cycle

expanded-append : (runs more : List Run) → expanded (runs ++ more) ≡ expanded runs ++ expanded more
expanded-append [] more = refl
expanded-append (run ∷ runs) more =
    ap (λ (l : List CycleNote). run.note ∷ replicate run.again run.note ++ l) (expanded-append runs more)
    ∙ ap (λ (l : List CycleNote). run.note ∷ l) (sym (append_assoc (replicate run.again run.note) (expanded runs) (expanded more)))

one-run : (note : CycleNote) (again : ℕ) → expanded (record { note = note; again = again } ∷ []) ≡ note ∷ replicate again note
one-run note again = ap (λ (l : List CycleNote). note ∷ l) (append-nil (replicate again note))

pub again-expanded : (runs : List Run) (note : CycleNote) (again : ℕ)
    → expanded (runs ++ record { note = note; again = again + 1 } ∷ []) ≡ expanded (runs ++ record { note = note; again = again } ∷ []) ++ note ∷ []
again-expanded runs note again =
    expanded-append runs (record { note = note; again = again + 1 } ∷ [])
    ∙ ap (λ (l : List CycleNote). expanded runs ++ l)
    (one-run note (again + 1) ∙ ap (λ (l : List CycleNote). note ∷ l) (sym (replicate_more again note)) ∙ ap (λ (l : List CycleNote). l ++ note ∷ []) (sym (one-run note again)))
    ∙ sym (append_assoc (expanded runs) (expanded (record { note = note; again = again } ∷ [])) (note ∷ []))
    ∙ ap (λ (l : List CycleNote). l ++ note ∷ []) (sym (expanded-append runs (record { note = note; again = again } ∷ [])))

pub more-expanded : (runs : List Run) (note : CycleNote) → expanded (runs ++ record { note = note; again = 0 } ∷ []) ≡ expanded runs ++ note ∷ []
more-expanded runs note = expanded-append runs (record { note = note; again = 0 } ∷ [])

-- as many of these cycles, or more
pub separate-counted : (runs : List Run) (one other : Run) → other.note ≡ one.note → AreSeparate (runs ++ one ∷ []) → AreSeparate (runs ++ other ∷ [])
separate-counted [] one other same all = (tt, tt)
separate-counted (run ∷ []) one other same all = (subst (λ (n : CycleNote). n ≢ run.note) (sym same) all.0, (tt, tt))
separate-counted (run ∷ next ∷ runs) one other same all = (all.0, separate-counted (next ∷ runs) one other same all.1)

-- other cycles
pub separate-more : (runs : List Run) (one other : Run) → other.note ≢ one.note → AreSeparate (runs ++ one ∷ []) → AreSeparate ((runs ++ one ∷ []) ++ other ∷ [])
separate-more [] one other separate all = (separate, (tt, tt))
separate-more (run ∷ []) one other separate all = (all.0, (separate, (tt, tt)))
separate-more (run ∷ next ∷ runs) one other separate all = (all.0, separate-more (next ∷ runs) one other separate all.1)

-- ---- the last cycle

-- the last item of these lists is that of the second
last-after : (front back : List CycleNote) (last : CycleNote) → slice_get back (length back - 1) ≡ Some last
    → slice_get (front ++ back) (length (front ++ back) - 1) ≡ Some last
last-after front [] last is = cc
last-after [] (one ∷ back) last is = is
last-after (first ∷ front) (one ∷ back) last is =
    let rest = last-after front (one ∷ back) last is in
    let n : length (first ∷ front ++ one ∷ back) - 1 ≡ suc (length (front ++ one ∷ back) - 1) = omega (arith, length-append front (one ∷ back)) in
    rw n rest

last-repeated : (note : CycleNote) (again : ℕ) → slice_get (note ∷ replicate again note) (length (note ∷ replicate again note) - 1) ≡ Some note
last-repeated note again =
    let more : again + 1 ≡ suc again = omega arith in
    subst (λ (l : List CycleNote). slice_get l (length l - 1) ≡ Some note) (replicate_more again note ∙ ap (λ (k : ℕ). replicate k note) more)
    (last-after (replicate again note) (note ∷ []) note refl)

last-at : (runs : List Run) (n : ℕ) (last : Run) → length runs ≡ suc n → slice_get runs n ≡ Some last
    → slice_get (expanded runs) (length (expanded runs) - 1) ≡ Some last.note
last-at [] n last count is = absurd (omega arith)
last-at (one ∷ []) zero last count is =
    subst (λ (l : List CycleNote). slice_get l (length l - 1) ≡ Some last.note) (sym (one-run one.note one.again))
    (last-repeated one.note one.again ∙ cc)
last-at (one ∷ []) (suc n) last count is = absurd (omega arith)
last-at (one ∷ next ∷ runs) zero last count is = absurd (omega arith)
last-at (one ∷ next ∷ runs) (suc n) last count is =
    last-after (one.note ∷ replicate one.again one.note) (expanded (next ∷ runs)) last.note (last-at (next ∷ runs) n last (omega arith) is)

pub last-expanded : (runs : List Run) (last : Run) → slice_get runs (length runs - 1) ≡ Some last
    → slice_get (expanded runs) (length (expanded runs) - 1) ≡ Some last.note
last-expanded [] last is = cc
last-expanded (one ∷ runs) last is =
    let n : suc (length runs) - 1 ≡ length runs = omega arith in
    last-at (one ∷ runs) (length runs) last refl (rw n at is)

-- ---- the same cycles are the same runs

same-head : (x y : CycleNote) (xs ys : List CycleNote) → x ∷ xs ≡ y ∷ ys → (x ≡ y) × (xs ≡ ys)
same-head x y xs ys is = (cc, cc)

begins-not : (note : CycleNote) (runs : List Run) (rest : List CycleNote) → BeginsSeparate note runs → expanded runs ≡ note ∷ rest → ⊥
begins-not note [] rest separate is = cc
begins-not note (run ∷ runs) rest separate is = separate (same-head run.note note (replicate run.again run.note ++ expanded runs) rest is).0

counted-alike : (note : CycleNote) (k l : ℕ) (ones others : List Run) → BeginsSeparate note ones → BeginsSeparate note others
    → replicate k note ++ expanded ones ≡ replicate l note ++ expanded others → (k ≡ l) × (expanded ones ≡ expanded others)
counted-alike note zero zero ones others separate separate' is = (refl, is)
counted-alike note zero (suc l) ones others separate separate' is = absurd (begins-not note ones (replicate l note ++ expanded others) separate is)
counted-alike note (suc k) zero ones others separate separate' is = absurd (begins-not note others (replicate k note ++ expanded ones) separate' (sym is))
counted-alike note (suc k) (suc l) ones others separate separate' is =
    let rest = counted-alike note k l ones others separate separate'
    (same-head note note (replicate k note ++ expanded ones) (replicate l note ++ expanded others) is).1 in
    (ap suc rest.0, rest.1)

pub same-runs : (ones others : List Run) → AreSeparate ones → AreSeparate others → expanded ones ≡ expanded others → ones ≡ others
same-runs [] [] separate separate' is = refl
same-runs [] (other ∷ others) separate separate' is = cc
same-runs (one ∷ ones) [] separate separate' is = cc
same-runs (one ∷ ones) (other ∷ others) separate separate' is =
    let both = same-head one.note other.note (replicate one.again one.note ++ expanded ones) (replicate other.again other.note ++ expanded others) is in
    let alike = counted-alike one.note one.again other.again ones others separate.0 (subst (λ (n : CycleNote). BeginsSeparate n others) (sym both.0) separate'.0)
    (both.1 ∙ ap (λ (n : CycleNote). replicate other.again n ++ expanded others) (sym both.0)) in
    let rest = same-runs ones others separate.1 separate'.1 alike.1 in
    λ i. record { note = both.0 i; again = alike.0 i } ∷ rest i

-- ---- one more cycle of the notes

true-not-false : true ≡ false → ⊥
true-not-false is = cc

-- the cycles are compared field by field
pub alike : (one other : CycleNote) → ((one.prefix == other.prefix) && (one.size == other.size)) ≡ true → one ≡ other
alike one other = from (eqb_tells one.prefix other.prefix) (eqb_tells one.size other.size)
  where
    from : ((one.prefix == other.prefix) ≡ true) × (one.prefix ≡ other.prefix) ⊎ ((one.prefix == other.prefix) ≡ false) × (one.prefix ≢ other.prefix)
        → ((one.size == other.size) ≡ true) × (one.size ≡ other.size) ⊎ ((one.size == other.size) ≡ false) × (one.size ≢ other.size)
        → ((one.prefix == other.prefix) && (one.size == other.size)) ≡ true → one ≡ other
    from (inl prefix) (inl size) is = λ i. record { prefix = prefix.1 i; size = size.1 i }
    from (inl prefix) (inr size) is = absurd (true-not-false (sym (rw (prefix.0, size.0) at is)))
    from (inr prefix) size is = absurd (true-not-false (sym (rw prefix.0 at is)))

pub unlike : (one other : CycleNote) → ((one.prefix == other.prefix) && (one.size == other.size)) ≡ false → other ≢ one
unlike one other is same =
    let prefix = eq-eqb one.prefix other.prefix (ap (λ (n : CycleNote). n.prefix) (sym same)) in
    let size = eq-eqb one.size other.size (ap (λ (n : CycleNote). n.size) (sym same)) in
    true-not-false (rw (prefix, size) at is)

room-left : (runs : List Run) (left : ℕ) → 0 < spare_after runs left → is_full runs ≡ false
room-left runs left room = from (is_full runs) room
  where
    from : (b : Bool) → 0 < (if b then 0 else left) → b ≡ false
    from true room = absurd (omega (arith, room))
    from false room = refl

-- the last run can be counted further
pub counts-on : (popped entire : List Run) (last : Run) (left spare : ℕ) → popped ++ last ∷ [] ≡ entire → spare_after entire left ≡ spare → 0 < spare
    → last.again ≢ 18446744073709551615
counts-on popped entire last left spare is spared room most =
    let vacant = room-left (popped ++ last ∷ []) left (rw (is, spared) room) in
    let full : (last.again == 18446744073709551615) ≡ false = sym (full-after popped last) ∙ vacant in
    let even = eq-eqb last.again 18446744073709551615 most in
    absurd (true-not-false (sym even ∙ full))

pub hand-again : (popped entire now : List Run) (last : Run) (note : CycleNote) (entries : List CycleNote) → popped ++ last ∷ [] ≡ entire → last.note ≡ note
    → now ≡ popped ++ record { note = note; again = last.again + 1 } ∷ [] → expanded entire ≡ entries → expanded now ≡ entries ++ note ∷ []
hand-again popped entire now last note entries is same more has =
    ap expanded more ∙ again-expanded popped note last.again
    ∙ ap (λ (l : List CycleNote). l ++ note ∷ [])
    (ap (λ (n : CycleNote). expanded (popped ++ record { note = n; again = last.again } ∷ [])) (sym same) ∙ ap expanded is ∙ has)

pub hand-more : (popped entire mid now : List Run) (last : Run) (note : CycleNote) (entries : List CycleNote) → popped ++ last ∷ [] ≡ entire
    → mid ≡ popped ++ last ∷ [] → now ≡ mid ++ record { note = note; again = 0 } ∷ [] → expanded entire ≡ entries → expanded now ≡ entries ++ note ∷ []
hand-more popped entire mid now last note entries is put more has =
    ap expanded more ∙ more-expanded mid note ∙ ap (λ (l : List CycleNote). l ++ note ∷ []) (ap expanded (put ∙ is) ∙ has)
