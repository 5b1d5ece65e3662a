-- What is settled.
use Rattle.std.proofs.Common.{false, Bool, ◌≡◌, ◌≢◌, ◌⊎◌, inl, inr, ℕ, zero, suc, ◌+◌, ◌-◌, ◌<◌, ◌≤◌, true, List, [], ◌∷◌, ◌++◌, length, take, drop, set, get_or, map, refl, sym, ◌∙◌, ap, subst, arith, add-zero}
use Rattle.std.specs.Prelude.{nat_le, ◌&&◌, Some, None, slice_get}
use Rattle.std.proofs.lemmas.List.{length-map, length-drop, length_push, get_or_append_left, get_or-drop, get_or-map, drop-drop, drop_more, get_or_past, take-append-drop}
use Rattle.book_model.specs.Cells.{Cell}
use Rattle.book_model.specs.Cells.{nothing}
use Rattle.book_model.specs.Cells.{cell_of}
use Rattle.book_model.specs.declared.due.Naming.{Naming}
use Rattle.book_model.specs.declared.due.Word.{Word}
use Rattle.book_model.specs.Pending.{values_of, settled_count, unsettled, namings_settled, can_retire}
use Rattle.book_model.specs.Queue.{CanRetire}
use Rattle.book_model.specs.Queue.{no_naming, no_word, pair_of, live_of, cells_from, pending_of, word_at, naming_at, Stands, IsSettled, SettledTo, numbers_of, naming_down, word_down}
use Rattle.book_model.proofs.EndLaws.{same_test, other_test, le-true, le-false, values-append}
use Rattle.std.proofs.lemmas.Bool.{cases_eq, leb-true}
use Rattle.book_model.proofs.QueueLaws.{cell-at, live-at, word-set, length-cells}
use Rattle.book_model.proofs.DownLaws.{values-fewer}

pub settled-more : (namings : List Naming) (words : List Word) (place : ℕ) → IsSettled place namings words → place < length namings → place < (word_at words (naming_at namings place).word).mark → IsSettled (place + 1) namings words
settled-more namings words place settled within here = record { inside = omega arith; each = λ p lt. one p (last-or p place lt) }
  where
    last-or : (p n : ℕ) → p < n + 1 → (p < n) ⊎ (p ≡ n)
    last-or p n lt = grind arith

    one : (p : ℕ) → (p < place) ⊎ (p ≡ place) → p < (word_at words (naming_at namings p).word).mark
    one p (inl lt) = settled.each p lt
    one p (inr is) = subst (λ (k : ℕ). k < (word_at words (naming_at namings k).word).mark) (sym is) here

-- marks grow
mark-grows : (words : List Word) (at k : ℕ) (word : Word) → at < length words → (word_at words at).mark ≤ word.mark → (word_at words k).mark ≤ (word_at (set words at word) k).mark
mark-grows words at k word within grows = word-set words at k word within (λ i w. (word_at words i).mark ≤ w.mark) grows (λ other. omega arith)

pub settled-set : (namings : List Naming) (words : List Word) (settled at : ℕ) (word : Word) → IsSettled settled namings words → at < length words → (word_at words at).mark ≤ word.mark → IsSettled settled namings (set words at word)
settled-set namings words settled at word is within grows = record {
  inside = is.inside;
  each = λ p lt. let old = is.each p lt in let more = mark-grows words at (naming_at namings p).word word within grows in omega arith;
}

pub settled-named : (namings : List Naming) (words : List Word) (settled at : ℕ) (n : Naming) (word : Word) → IsSettled settled namings words → at < length words → (word_at words at).mark ≤ word.mark → IsSettled settled (namings ++ n ∷ []) (set words at word)
settled-named namings words settled at n word is within grows =
    let set_is = settled-set namings words settled at word is within grows in
    record {
      inside = omega (arith, is.inside, length_push namings n);
      each = λ p lt. let inside : p < length namings = omega (arith, is.inside) in rw (get_or_append_left namings (n ∷ []) no_naming p inside) (set_is.each p lt);
    }

pub settled-down-before : (namings : List Naming) (words : List Word) (settled count : ℕ) → Stands namings words → IsSettled settled namings words → IsSettled (settled - count) (map (naming_down count) (drop count namings)) (map (word_down count) words)
settled-down-before namings words settled count stands is = record {
  inside = omega (arith, is.inside, length-map (drop count namings) (naming_down count), length-drop count namings);
  each = λ p lt.
      let old = is.each (count + p) (omega arith) in
      let few : p < length (drop count namings) = omega (arith, is.inside, length-drop count namings) in
      let inside = (stands.each_naming (count + p) (omega (arith, is.inside))).inside in
      rw (get_or-map (naming_down count) (drop count namings) p no_naming no_naming few, get_or-drop count namings p no_naming)
      (rw (get_or-map (word_down count) words (naming_at namings (count + p)).word no_word no_word inside) (omega arith));
}

-- HOW MANY

count-is : (cells : List Cell) (live : List (ℕ × ℕ)) (settled : ℕ) (d : ℕ × ℕ) → settled ≤ length live
    → ((p : ℕ) → p < settled → length (cell_of cells (get_or live p d).0).owed ≤ length (values_of (get_or live p d).0 (drop (suc p) live)))
    → (settled < length live → length (values_of (get_or live settled d).0 (drop (suc settled) live)) < length (cell_of cells (get_or live settled d).0).owed)
    → settled_count cells live ≡ settled
count-is cells [] zero d le each last = refl
count-is cells [] (suc s) d le each last = absurd (omega arith)
count-is cells (n ∷ ns) zero d le each last = rw (le-false (length (cell_of cells n.0).owed) (length (values_of n.0 ns)) (last (omega arith))) refl
count-is cells (n ∷ ns) (suc s) d le each last =
    rw (le-true (length (cell_of cells n.0).owed) (length (values_of n.0 ns)) (each 0 (omega arith)))
    (ap suc (count-is cells ns s d (omega arith) (λ p lt. each (suc p) (omega arith)) (λ lt. last (omega arith))))

-- a naming that isn't settled: its word owes more than later namings name it
owes-more : (namings : List Naming) (words : List Word) (p : ℕ) → Stands namings words → p < length namings → (word_at words (naming_at namings p).word).mark ≤ p
    → length (values_of (naming_at namings p).word (drop (suc p) (live_of namings))) < length (cell_of (cells_from (live_of namings) 0 words) (naming_at namings p).word).owed
owes-more namings words p stands within le =
    let live = live_of namings in
    let at = (naming_at namings p).word in
    let mark = (word_at words at).mark in
    let is : mark + (p - mark) ≡ p = omega arith in
    let split : drop p live ≡ drop (p - mark) (drop mark live) = sym (drop-drop (p - mark) mark live ∙ ap (λ (n : ℕ). drop n live) is) in
    let next : p + 1 ≡ suc p = omega arith in
    let first : drop p live ≡ pair_of (naming_at namings p) ∷ drop (suc p) live =
    drop_more live p (pair_of no_naming) (omega (arith, length-map namings pair_of)) ∙ ap (λ (k : ℕ). get_or live p (pair_of no_naming) ∷ drop k live) next ∙ ap (λ (n : ℕ × ℕ). n ∷ drop (suc p) live) (live-at namings p) in
    let values : values_of at (drop p live) ≡ (naming_at namings p).value ∷ values_of at (drop (suc p) live) = ap (values_of at) first ∙ rw (same_test at at refl) refl in
    let fewer : length (values_of at (drop p live)) ≤ length (values_of at (drop mark live)) = subst (λ (l : List (ℕ × ℕ)). length (values_of at l) ≤ length (values_of at (drop mark live))) (sym split) (values-fewer at (p - mark) (drop mark live)) in
    rw (cell-at live words at ((stands.each_naming p within).inside)) (omega (arith, ap length values, fewer))

pub settled-count : (namings : List Naming) (words : List Word) (settled : ℕ) → Stands namings words → IsSettled settled namings words → (settled < length namings → (word_at words (naming_at namings settled).word).mark ≤ settled)
    → settled ≡ settled_count (cells_from (live_of namings) 0 words) (live_of namings)
settled-count namings words settled stands is last =
    sym (count-is (cells_from live 0 words) live settled (pair_of no_naming) (omega (arith, is.inside, length-map namings pair_of))
    (λ p lt. rw (live-at namings p) (here p (omega (arith, is.inside)) (is.each p lt)))
    (λ lt. let within : settled < length namings = omega (arith, length-map namings pair_of) in rw (live-at namings settled) (owes-more namings words settled stands within (last within))))
  where
    live : List (ℕ × ℕ)
    live = live_of namings

    here : (p : ℕ) → p < length namings → p < (word_at words (naming_at namings p).word).mark
        → length (cell_of (cells_from live 0 words) (naming_at namings p).word).owed ≤ length (values_of (naming_at namings p).word (drop (suc p) live))
    here p within lt =
        let at = (naming_at namings p).word in
        let mark = (word_at words at).mark in
        let is : suc p + (mark - suc p) ≡ mark = omega arith in
        let split : drop mark live ≡ drop (mark - suc p) (drop (suc p) live) = sym (drop-drop (mark - suc p) (suc p) live ∙ ap (λ (n : ℕ). drop n live) is) in
        rw (cell-at live words at ((stands.each_naming p within).inside)) (subst (λ (l : List (ℕ × ℕ)). length (values_of at l) ≤ length (values_of at (drop (suc p) live))) (sym split) (values-fewer at (mark - suc p) (drop (suc p) live)))

-- THE TEST OF A RETIRE

-- where the word isn't named between
skip : (namings : List Naming) (at m j : ℕ) → m + j ≤ length namings → ((p : ℕ) → m ≤ p → p < m + j → (naming_at namings p).word ≢ at) → values_of at (drop (m + j) (live_of namings)) ≡ values_of at (drop m (live_of namings))
skip namings at m zero le other = rw add-zero refl
skip namings at m (suc j) le other =
    let live = live_of namings in
    let p = m + j in
    let next : m + suc j ≡ p + 1 = omega arith in
    let first : drop p live ≡ pair_of (naming_at namings p) ∷ drop (p + 1) live =
    drop_more live p (pair_of no_naming) (omega (arith, length-map namings pair_of)) ∙ ap (λ (n : ℕ × ℕ). n ∷ drop (p + 1) live) (live-at namings p) in
    let t = other_test (naming_at namings p).word at (other p (omega arith) (omega arith)) in
    let values : values_of at (drop p live) ≡ values_of at (drop (p + 1) live) = ap (values_of at) first ∙ rw t refl in
    ap (λ (n : ℕ). values_of at (drop n live)) next ∙ sym values ∙ skip namings at m j (omega arith) (λ q low high. other q low (omega arith))

pub can-retire : (namings : List Naming) (words : List Word) (settled count room : ℕ) → Stands namings words → IsSettled settled namings words → count ≤ settled → CanRetire (pending_of namings words room) count
can-retire namings words settled count room stands is le = λ at. one at (sides at (length words))
  where
    live : List (ℕ × ℕ)
    live = live_of namings

    sides : (m n : ℕ) → (m < n) ⊎ (n ≤ m)
    sides m n = grind arith

    inner : (at : ℕ) → ((word_at words at).mark < count) ⊎ (count ≤ (word_at words at).mark) → length (values_of at (drop (word_at words at).mark live)) ≤ length (values_of at (drop count live))
    inner at (inr low) =
        let mark = (word_at words at).mark in
        let sum : count + (mark - count) ≡ mark = omega arith in
        let split : drop mark live ≡ drop (mark - count) (drop count live) = sym (drop-drop (mark - count) count live ∙ ap (λ (n : ℕ). drop n live) sum) in
        subst (λ (l : List (ℕ × ℕ)). length (values_of at l) ≤ length (values_of at (drop count live))) (sym split) (values-fewer at (mark - count) (drop count live))
    inner at (inl high) =
        let mark = (word_at words at).mark in
        let sum : mark + (count - mark) ≡ count = omega arith in
        let same = skip namings at mark (count - mark) (omega (arith, is.inside)) (λ p low most named.
        let here = is.each p (omega arith) in
        let there : p < (word_at words at).mark = subst (λ (w : ℕ). p < (word_at words w).mark) named here in omega arith) in
        let all : values_of at (drop count live) ≡ values_of at (drop mark live) = ap (λ (n : ℕ). values_of at (drop n live)) (sym sum) ∙ same in
        omega (arith, ap length all)

    one : (at : ℕ) → (at < length words) ⊎ (length words ≤ at) → length (cell_of (cells_from live 0 words) at).owed ≤ length (values_of at (drop count live))
    one at (inr out) = rw (get_or_past (cells_from live 0 words) at nothing (omega (arith, length-cells live 0 words))) (omega arith)
    one at (inl inside) = rw (cell-at live words at inside) (inner at (sides (word_at words at).mark count))

pub cannot-retire : (namings : List Naming) (words : List Word) (settled count room : ℕ) → Stands namings words → (settled < length namings → (word_at words (naming_at namings settled).word).mark ≤ settled) → count ≤ length namings → settled < count
    → CanRetire (pending_of namings words room) count → ⊥
cannot-retire namings words settled count room stands first few lt can =
    let live = live_of namings in
    let at = (naming_at namings settled).word in
    let within : settled < length namings = omega arith in
    let more = owes-more namings words settled stands within (first within) in
    let sum : suc settled + (count - suc settled) ≡ count = omega arith in
    let split : drop count live ≡ drop (count - suc settled) (drop (suc settled) live) = sym (drop-drop (count - suc settled) (suc settled) live ∙ ap (λ (n : ℕ). drop n live) sum) in
    let fewer : length (values_of at (drop count live)) ≤ length (values_of at (drop (suc settled) live)) = subst (λ (l : List (ℕ × ℕ)). length (values_of at l) ≤ length (values_of at (drop (suc settled) live))) (sym split) (values-fewer at (count - suc settled) (drop (suc settled) live)) in
    let here = can at in
    omega arith

pub le-of : (a b : ℕ) → nat_le a b ≡ true → a ≤ b
le-of a b is = leb-true a b is

pub retire-test : (count settled : ℕ) → (settled < count → ⊥) → nat_le count settled ≡ true
retire-test count settled not = one (sides count settled)
  where
    sides : (m n : ℕ) → (m ≤ n) ⊎ (n < m)
    sides m n = grind arith

    one : (count ≤ settled) ⊎ (settled < count) → nat_le count settled ≡ true
    one (inl le) = le-true count settled le
    one (inr lt) = absurd (not lt)

-- the first namings are retired: those behind are settled as far as they were
pub settled-down : (namings : List Naming) (words : List Word) (settled count room : ℕ) → Stands namings words → SettledTo settled namings words → count ≤ length namings → CanRetire (pending_of namings words room) count
    → SettledTo (settled - count) (map (naming_down count) (drop count namings)) (map (word_down count) words)
settled-down namings words settled count room stands is few can = record {
  before = settled-down-before namings words settled count stands is.before;
  first = λ lt.
      let low : count ≤ settled = le-of count settled (retire-test count settled (λ less. cannot-retire namings words settled count room stands is.first few less can)) in
      let within : settled - count < length (drop count namings) = omega (arith, length-map (drop count namings) (naming_down count)) in
      let there : settled < length namings = omega (arith, length-drop count namings) in
      let sum : count + (settled - count) ≡ settled = omega arith in
      let inside = (stands.each_naming settled there).inside in
      let first = is.first there in
      rw (get_or-map (naming_down count) (drop count namings) (settled - count) no_naming no_naming within, get_or-drop count namings (settled - count) no_naming, sum)
      (rw (get_or-map (word_down count) words (naming_at namings settled).word no_word no_word inside) (omega arith));
}

-- THE FIRST ENTRY THAT ISN'T SETTLED

pub unsettled-some : (namings : List Naming) (words : List Word) (settled room : ℕ) → Stands namings words → SettledTo settled namings words → settled < length namings
    → Some (naming_at namings settled).entry ≡ unsettled (pending_of namings words room)
unsettled-some namings words settled room stands is within =
    sym (ap (slice_get (numbers_of namings)) (sym (settled-count namings words settled stands is.before is.first)) ∙ number-at namings settled within)
  where
    number-at : (ns : List Naming) (k : ℕ) → k < length ns → slice_get (numbers_of ns) k ≡ Some (naming_at ns k).entry
    number-at [] k lt = absurd (omega arith)
    number-at (n ∷ ns) zero lt = refl
    number-at (n ∷ ns) (suc k) lt = number-at ns k (omega arith)

pub unsettled-none : (namings : List Naming) (words : List Word) (settled room : ℕ) → Stands namings words → SettledTo settled namings words → length namings ≤ settled
    → None ≡ unsettled (pending_of namings words room)
unsettled-none namings words settled room stands is over =
    sym (ap (slice_get (numbers_of namings)) (sym (settled-count namings words settled stands is.before is.first)) ∙ none-at namings settled over)
  where
    none-at : (ns : List Naming) (k : ℕ) → length ns ≤ k → slice_get (numbers_of ns) k ≡ None
    none-at [] k le = refl
    none-at (n ∷ ns) zero le = absurd (omega arith)
    none-at (n ∷ ns) (suc k) le = none-at ns k (omega arith)

-- THE TEST OF A RETIRE, NAMING BY NAMING

-- if no word is owed more than later namings name it, all is settled
pub settled-all : (cells : List Cell) (after ns : List (ℕ × ℕ)) → ((at : ℕ) → length (cell_of cells at).owed ≤ length (values_of at after)) → namings_settled cells after ns ≡ true
settled-all cells after [] all = refl
settled-all cells after (n ∷ ns) all = rw (le-true (length (cell_of cells n.0).owed) (length (values_of n.0 after)) (all n.0)) (settled-all cells after ns all)

pub and-left : (a b : Bool) → (a && b) ≡ true → a ≡ true
and-left true b h = refl
and-left false b h = h

pub and-right : (a b : Bool) → (a && b) ≡ true → b ≡ true
and-right true b h = h
and-right false b h = absurd (cc)

-- a word that is named there is owed no more than later namings name it
pub word-settled : (cells : List Cell) (after ns : List (ℕ × ℕ)) (at : ℕ) → namings_settled cells after ns ≡ true
    → (values_of at ns ≡ []) ⊎ (length (cell_of cells at).owed ≤ length (values_of at after))
word-settled cells after [] at all = inl refl
word-settled cells after (n ∷ ns) at all =
    let here = nat_le (length (cell_of cells n.0).owed) (length (values_of n.0 after)) in
    let rest = word-settled cells after ns at (and-right here (namings_settled cells after ns) all) in
    elim (cases_eq n.0 at) [
      | inl is ↦ inr (subst (λ (k : ℕ). length (cell_of cells k).owed ≤ length (values_of k after)) is (le-of (length (cell_of cells n.0).owed) (length (values_of n.0 after)) (and-left here (namings_settled cells after ns) all)))
      | inr not ↦ rw (other_test n.0 at not) rest
    ]

-- where nothing of a word is retired it owes what is left
owed-left : (namings : List Naming) (words : List Word) (count room at : ℕ) → values_of at (take count (live_of namings)) ≡ []
    → length (cell_of (pending_of namings words room).cells at).owed ≤ length (values_of at (drop count (live_of namings)))
owed-left namings words count room at none = one (sides at (length words))
  where
    live : List (ℕ × ℕ)
    live = live_of namings

    sides : (m n : ℕ) → (m < n) ⊎ (n ≤ m)
    sides m n = grind arith

    all : values_of at live ≡ values_of at (drop count live)
    all = ap (values_of at) (sym (take-append-drop count live)) ∙ values-append at (take count live) (drop count live) ∙ ap (λ (l : List ℕ). l ++ values_of at (drop count live)) none

    one : (at < length words) ⊎ (length words ≤ at) → length (cell_of (cells_from live 0 words) at).owed ≤ length (values_of at (drop count live))
    one (inr out) = rw (get_or_past (cells_from live 0 words) at nothing (omega (arith, length-cells live 0 words))) (omega arith)
    one (inl inside) = rw (cell-at live words at inside) (omega (arith, ap length all, values-fewer at (word_at words at).mark live))

pub settled-can : (namings : List Naming) (words : List Word) (count room : ℕ) → can_retire (pending_of namings words room) count ≡ true → CanRetire (pending_of namings words room) count
settled-can namings words count room all = λ at. one at (word-settled (pending_of namings words room).cells (drop count (live_of namings)) (take count (live_of namings)) at all)
  where
    one : (at : ℕ) → (values_of at (take count (live_of namings)) ≡ []) ⊎ (length (cell_of (pending_of namings words room).cells at).owed ≤ length (values_of at (drop count (live_of namings))))
        → length (cell_of (pending_of namings words room).cells at).owed ≤ length (values_of at (drop count (live_of namings)))
    one at (inl none) = owed-left namings words count room at none
    one at (inr le) = le

pub retire-exact : (namings : List Naming) (words : List Word) (settled count room : ℕ) → Stands namings words → SettledTo settled namings words → count ≤ length namings
    → nat_le count settled ≡ can_retire (pending_of namings words room) count
retire-exact namings words settled count room stands is few = one (sides count settled) (bool_cases (can_retire (pending_of namings words room) count))
  where
    sides : (m n : ℕ) → (m ≤ n) ⊎ (n < m)
    sides m n = grind arith

    bool_cases : (b : Bool) → (b ≡ true) ⊎ (b ≡ false)
    bool_cases true = inl refl
    bool_cases false = inr refl

    one : (count ≤ settled) ⊎ (settled < count) → (can_retire (pending_of namings words room) count ≡ true) ⊎ (can_retire (pending_of namings words room) count ≡ false) → nat_le count settled ≡ can_retire (pending_of namings words room) count
    one (inl le) test = le-true count settled le ∙ sym (settled-all (pending_of namings words room).cells (drop count (live_of namings)) (take count (live_of namings)) (can-retire namings words settled count room stands is.before le))
    one (inr lt) (inr fails) = le-false count settled lt ∙ sym fails
    one (inr lt) (inl holds) = absurd (cannot-retire namings words settled count room stands is.first few lt (settled-can namings words count room holds))
