-- The first namings are retired.
use Rattle.std.proofs.Common.{◌≡◌, ◌≢◌, ◌⊎◌, inl, inr, ℕ, zero, suc, ◌+◌, ◌-◌, ◌<◌, ◌≤◌, List, [], ◌∷◌, ◌++◌, length, take, drop, set, get_or, map, refl, sym, ◌∙◌, ap, subst, arith}
use Rattle.std.proofs.lemmas.List.{length-map, length-drop, map-append, take_more, take_more_set, drop-set-lt, get_or-drop, get_or-map, drop-take, drop-drop, drop_more, ext_get_or}
use Rattle.std.proofs.lemmas.Bool.{cases_eq}
use Rattle.book_model.specs.Cells.{Cell}
use Rattle.book_model.specs.declared.due.Naming.{Naming}
use Rattle.book_model.specs.declared.due.Word.{Word}
use Rattle.book_model.specs.Pending.{Pending, values_of, retired}
use Rattle.book_model.specs.Queue.{CanRetire}
use Rattle.book_model.specs.Queue.{no_naming, no_word, pair_of, live_of, known_of, cell_for, cells_from, pending_of, end_of, word_at, naming_at, numbers_of, Stands, Cursor, naming_down, word_down, word_passed}
use Rattle.book_model.proofs.EndLaws.{same_test, other_test, end-dropped, end-names, end-le, le-true, le-false}
use Rattle.book_model.proofs.QueueLaws.{cell-at, live-at, word-set}

-- A LOOP THAT MOVES ITEMS DOWN

pub down-more : {X : Type 0} (f : X → X) → (old now : List X) (shift i : ℕ) (d : X) → shift + i < length old → length now ≡ length old
    → take i now ≡ map f (take i (drop shift old)) → drop (shift + i) now ≡ drop (shift + i) old
    → (take (i + 1) (set now i (f (get_or now (shift + i) d))) ≡ map f (take (i + 1) (drop shift old))) × (drop (shift + (i + 1)) (set now i (f (get_or now (shift + i) d))) ≡ drop (shift + (i + 1)) old)
down-more {X} f old now shift i d within same done rest =
    let one : get_or now (shift + i) d ∷ drop (shift + i + 1) now ≡ get_or old (shift + i) d ∷ drop (shift + i + 1) old =
    sym (drop_more now (shift + i) d (omega (arith, same))) ∙ rest ∙ drop_more old (shift + i) d within in
    let item : get_or now (shift + i) d ≡ get_or old (shift + i) d = cc in
    let after : drop (shift + i + 1) now ≡ drop (shift + i + 1) old = cc in
    let there : shift + (i + 1) ≡ shift + i + 1 = omega arith in (
      take_more_set now i (f (get_or now (shift + i) d)) (omega (arith, same))
          ∙ ap (λ (l : List X). l ++ f (get_or now (shift + i) d) ∷ []) done
          ∙ ap (λ (x : X). map f (take i (drop shift old)) ++ f x ∷ []) (item ∙ sym (get_or-drop shift old i d))
          ∙ sym (map-append f (take i (drop shift old)) (get_or (drop shift old) i d ∷ []))
          ∙ sym (ap (map f) (take_more (drop shift old) i d (omega (arith, length-drop shift old)))),
      ap (λ (n : ℕ). drop n (set now i (f (get_or now (shift + i) d)))) there ∙ drop-set-lt (shift + i + 1) now i (f (get_or now (shift + i) d)) (omega arith) ∙ after ∙ sym (ap (λ (n : ℕ). drop n old) there),
    )

-- WHAT IS OWED STAYS

pub values-fewer : (at j : ℕ) (live : List (ℕ × ℕ)) → length (values_of at (drop j live)) ≤ length (values_of at live)
values-fewer at zero live = omega arith
values-fewer at (suc j) [] = omega arith
values-fewer at (suc j) (n ∷ ns) = elim (cases_eq n.0 at) [
  | inl is ↦ rw (same_test n.0 at is) (omega (arith, values-fewer at j ns))
  | inr not ↦ rw (other_test n.0 at not) (values-fewer at j ns)
]

values-same : (at j : ℕ) (live : List (ℕ × ℕ)) → length (values_of at live) ≤ length (values_of at (drop j live)) → values_of at (drop j live) ≡ values_of at live
values-same at zero live le = refl
values-same at (suc j) [] le = refl
values-same at (suc j) (n ∷ ns) le = elim (cases_eq n.0 at) [
  | inl is ↦ let t = same_test n.0 at is in let l = rw t at le in absurd (omega (arith, values-fewer at j ns))
  | inr not ↦ let t = other_test n.0 at not in let l = rw t at le in rw t (values-same at j ns l)
]

owed-down : (at mark count : ℕ) (live : List (ℕ × ℕ)) → length (values_of at (drop mark live)) ≤ length (values_of at (drop count live))
    → values_of at (drop (mark - count) (drop count live)) ≡ values_of at (drop mark live)
owed-down at mark count live few = one (order mark count)
  where
    order : (m n : ℕ) → (n ≤ m) ⊎ (m < n)
    order m n = grind arith

    one : (count ≤ mark) ⊎ (mark < count) → values_of at (drop (mark - count) (drop count live)) ≡ values_of at (drop mark live)
    one (inl le) = let is : count + (mark - count) ≡ mark = omega arith in ap (values_of at) (drop-drop (mark - count) count live ∙ ap (λ (n : ℕ). drop n live) is)
    one (inr lt) =
        let none : mark - count ≡ 0 = omega arith in
        let is : mark + (count - mark) ≡ count = omega arith in
        let split : drop count live ≡ drop (count - mark) (drop mark live) = sym (drop-drop (count - mark) mark live ∙ ap (λ (n : ℕ). drop n live) is) in
        ap (λ (n : ℕ). values_of at (drop n (drop count live))) none ∙ ap (values_of at) split
        ∙ values-same at (count - mark) (drop mark live) (subst (λ (l : List (ℕ × ℕ)). length (values_of at (drop mark live)) ≤ length (values_of at l)) split few)

-- THE QUEUE

pub live-down : (namings : List Naming) (count : ℕ) → live_of (map (naming_down count) (drop count namings)) ≡ drop count (live_of namings)
live-down namings count = downs namings count
  where
    keeps : (ns : List Naming) → live_of (map (naming_down count) ns) ≡ live_of ns
    keeps [] = refl
    keeps (n ∷ ns) = ap (λ (l : List (ℕ × ℕ)). pair_of n ∷ l) (keeps ns)

    downs : (ns : List Naming) (k : ℕ) → live_of (map (naming_down count) (drop k ns)) ≡ drop k (live_of ns)
    downs ns zero = keeps ns
    downs [] (suc k) = refl
    downs (n ∷ ns) (suc k) = downs ns k

numbers-down : (namings : List Naming) (count : ℕ) → numbers_of (map (naming_down count) (drop count namings)) ≡ drop count (numbers_of namings)
numbers-down namings count = downs namings count
  where
    keeps : (ns : List Naming) → numbers_of (map (naming_down count) ns) ≡ numbers_of ns
    keeps [] = refl
    keeps (n ∷ ns) = ap (λ (l : List ℕ). n.entry ∷ l) (keeps ns)

    downs : (ns : List Naming) (k : ℕ) → numbers_of (map (naming_down count) (drop k ns)) ≡ drop k (numbers_of ns)
    downs ns zero = keeps ns
    downs [] (suc k) = refl
    downs (n ∷ ns) (suc k) = downs ns k

cells-down : (live : List (ℕ × ℕ)) (count at : ℕ) (words : List Word) → ((k : ℕ) → k < length words → length (values_of (at + k) (drop (word_at words k).mark live)) ≤ length (values_of (at + k) (drop count live)))
    → cells_from (drop count live) at (map (word_down count) words) ≡ cells_from live at words
cells-down live count at [] few = refl
cells-down live count at (w ∷ ws) few =
    let z : at + 0 ≡ at = omega arith in
    let here : length (values_of at (drop w.mark live)) ≤ length (values_of at (drop count live)) = subst (λ (n : ℕ). length (values_of n (drop w.mark live)) ≤ length (values_of n (drop count live))) z (few 0 (omega arith)) in
    ap (λ (l : List ℕ). let c : Cell = record { known = known_of w.held; owed = l } in c ∷ cells_from (drop count live) (suc at) (map (word_down count) ws)) (owed-down at w.mark count live here)
    ∙ ap (λ (l : List Cell). cell_for live at w ∷ l) (cells-down live count (suc at) ws (λ k inside.
    let s : at + suc k ≡ suc at + k = omega arith in
    subst (λ (n : ℕ). length (values_of n (drop (word_at ws k).mark live)) ≤ length (values_of n (drop count live))) s (few (suc k) (omega arith))))

pub retires : (namings : List Naming) (words : List Word) (room count : ℕ) → CanRetire (pending_of namings words room) count
    → pending_of (map (naming_down count) (drop count namings)) (map (word_down count) words) (room + count) ≡ retired (pending_of namings words room) count
retires namings words room count can =
    let live = live_of namings in
    ap (λ (l : List (ℕ × ℕ)). let p : Pending = record { cells = cells_from l 0 (map (word_down count) words); live = l; numbers = numbers_of (map (naming_down count) (drop count namings)); room = room + count } in p) (live-down namings count)
    ∙ ap (λ (l : List ℕ). let p : Pending = record { cells = cells_from (drop count live) 0 (map (word_down count) words); live = drop count live; numbers = l; room = room + count } in p) (numbers-down namings count)
    ∙ ap (λ (l : List Cell). let p : Pending = record { cells = l; live = drop count live; numbers = drop count (numbers_of namings); room = room + count } in p)
    (cells-down live count 0 words (λ k inside.
    let z : 0 + k ≡ k = omega arith in
    subst (λ (n : ℕ). length (values_of n (drop (word_at words k).mark live)) ≤ length (values_of n (drop count live))) (sym z)
    (subst (λ (c : Cell). length c.owed ≤ length (values_of k (drop count live))) (cell-at live words k inside) (can k))))

pub stands-down : (namings : List Naming) (words : List Word) (count : ℕ) → Stands namings words → count ≤ length namings → Stands (map (naming_down count) (drop count namings)) (map (word_down count) words)
stands-down namings words count stands le = record {
  each_word = λ k inside.
      let within : k < length words = omega (arith, length-map words (word_down count)) in
      let w = stands.each_word k within in
      rw (live-down namings count, get_or-map (word_down count) words k no_word no_word within) (record {
        end = ap (λ (e : ℕ). e - count) w.end ∙ sym (end-dropped k count (live_of namings));
        mark = omega (arith, w.mark);
      });
  each_naming = λ p inside.
      let few : p < length (drop count namings) = omega (arith, length-map (drop count namings) (naming_down count)) in
      let n = stands.each_naming (count + p) (omega (arith, length-drop count namings)) in
      rw (live-down namings count, get_or-map (naming_down count) (drop count namings) p no_naming no_naming few, get_or-drop count namings p no_naming) (record {
        inside = omega (arith, n.inside, length-map words (word_down count));
        before = ap (λ (b : ℕ). b - count) n.before ∙ sym (end-dropped (naming_at namings (count + p)).word count (take (count + p) (live_of namings)))
            ∙ ap (end_of (naming_at namings (count + p)).word) (drop-take count p (live_of namings));
      });
}

past-down : (end mark cursor count : ℕ) → (end ≤ cursor → end ≤ mark) → end - count ≤ cursor - count → end - count ≤ mark - count
past-down end mark cursor count past le = one (order end cursor)
  where
    order : (m n : ℕ) → (m ≤ n) ⊎ (n < m)
    order m n = grind arith

    one : (end ≤ cursor) ⊎ (cursor < end) → end - count ≤ mark - count
    one (inl before) = let p : end ≤ mark = past before in omega arith
    one (inr out) = omega arith

pub cursor-down : (namings : List Naming) (words : List Word) (cursor count : ℕ) → Cursor cursor namings words → Cursor (cursor - count) (map (naming_down count) (drop count namings)) (map (word_down count) words)
cursor-down namings words cursor count past = record {
  inside = omega (arith, past.inside, length-map (drop count namings) (naming_down count), length-drop count namings);
  past = λ k inside.
      let within : k < length words = omega (arith, length-map words (word_down count)) in
      rw (get_or-map (word_down count) words k no_word no_word within) (past-down (word_at words k).end (word_at words k).mark cursor count (past.past k within));
}

-- as the code leaves them
pub moved-items : (namings lent written left : List Naming) (count len : ℕ) → lent ≡ namings → take (length lent - count) written ≡ map (naming_down count) (drop count lent) → len ≡ length lent → left ≡ take (len - count) written
    → left ≡ map (naming_down count) (drop count namings)
moved-items namings lent written left count len same moved is cut =
    cut ∙ ap (λ (n : ℕ). take (n - count) written) is ∙ moved ∙ ap (λ (l : List Naming). map (naming_down count) (drop count l)) same

pub inside-live : (namings : List Naming) (words : List Word) (room count : ℕ) (p : Pending) → pending_of namings words room ≡ p → count ≤ length p.live → count ≤ length namings
inside-live namings words room count p is within = let e = ap (λ (q : Pending). length q.live) is in omega (arith, e, length-map namings pair_of)

-- WORDS, NAMING BY NAMING

down-none : (count : ℕ) (w : Word) → w.end ≡ 0 → w.mark ≤ w.end → w ≡ word_down count w
down-none count w none few =
    let e : w.end ≡ w.end - count = omega arith in
    let m : w.mark ≡ w.mark - count = omega arith in
    ap (λ (n : ℕ). let v : Word = record { held = w.held; end = n; mark = w.mark } in v) e
    ∙ ap (λ (n : ℕ). let v : Word = record { held = w.held; end = w.end - count; mark = n } in v) m

passed : (count place : ℕ) (w : Word) → w.end ≤ place → word_passed count place w ≡ word_down count w
passed count place w le = rw (le-true w.end place le) refl

ahead : (count place : ℕ) (w : Word) → place < w.end → word_passed count place w ≡ w
ahead count place w lt = rw (le-false w.end place lt) refl

sides : (m n : ℕ) → (m ≤ n) ⊎ (n < m)
sides m n = grind arith

pub pass-none : (namings : List Naming) (words : List Word) (count k : ℕ) → Stands namings words → k < length words → word_at words k ≡ word_passed count 0 (word_at words k)
pass-none namings words count k stands inside = one (sides (word_at words k).end 0)
  where
    w : Word
    w = word_at words k

    one : (w.end ≤ 0) ⊎ (0 < w.end) → w ≡ word_passed count 0 w
    one (inl le) = down-none count w (omega arith) ((stands.each_word k inside).mark) ∙ sym (passed count 0 w le)
    one (inr lt) = sym (ahead count 0 w lt)

pass-same : (count i : ℕ) (old now : Word) → now ≡ word_passed count i old → old.end ≢ i + 1 → now ≡ word_passed count (i + 1) old
pass-same count i old now is other = one (sides old.end i)
  where
    one : (old.end ≤ i) ⊎ (i < old.end) → now ≡ word_passed count (i + 1) old
    one (inl le) = is ∙ passed count i old le ∙ sym (passed count (i + 1) old (omega arith))
    one (inr lt) = is ∙ ahead count i old lt ∙ sym (ahead count (i + 1) old (omega (arith, other)))

pass-end : (count i : ℕ) (old now : Word) → now ≡ word_passed count i old → now.end ≡ i + 1 → old.end ≡ i + 1
pass-end count i old now is end = one (sides old.end i)
  where
    one : (old.end ≤ i) ⊎ (i < old.end) → old.end ≡ i + 1
    one (inl le) = let e : now.end ≡ old.end - count = ap (λ (w : Word). w.end) (is ∙ passed count i old le) in absurd (omega arith)
    one (inr lt) = ap (λ (w : Word). w.end) (sym (is ∙ ahead count i old lt)) ∙ end

-- the word whose last naming is at the place is named there
names-here : (namings : List Naming) (words : List Word) (i k : ℕ) → Stands namings words → k < length words → (word_at words k).end ≡ i + 1 → (naming_at namings i).word ≡ k
names-here namings words i k stands inside end =
    let e = (stands.each_word k inside).end in
    ap (λ (n : ℕ × ℕ). n.0) (sym (live-at namings i)) ∙ end-names k i (live_of namings) (pair_of no_naming) (omega arith)

pub pass-kept : (namings : List Naming) (old now : List Word) (count i : ℕ) → Stands namings old → length now ≡ length old
    → ((k : ℕ) → k < length old → word_at now k ≡ word_passed count i (word_at old k))
    → (word_at now (naming_at namings i).word).end ≢ i + 1
    → (k : ℕ) → k < length old → word_at now k ≡ word_passed count (i + 1) (word_at old k)
pass-kept namings old now count i stands same all other k inside =
    pass-same count i (word_at old k) (word_at now k) (all k inside) (λ end.
    let at : (naming_at namings i).word ≡ k = names-here namings old i k stands inside end in
    let w : word_at now k ≡ word_at old k = all k inside ∙ ahead count i (word_at old k) (omega arith) in
    other (ap (λ (n : ℕ). (word_at now n).end) at ∙ ap (λ (w : Word). w.end) w ∙ end))

pub pass-set : (namings : List Naming) (old now : List Word) (count i : ℕ) → Stands namings old → length now ≡ length old → i < length namings
    → ((k : ℕ) → k < length old → word_at now k ≡ word_passed count i (word_at old k))
    → (word_at now (naming_at namings i).word).end ≡ i + 1
    → (k : ℕ) → k < length old → word_at (set now (naming_at namings i).word (word_down count (word_at now (naming_at namings i).word))) k ≡ word_passed count (i + 1) (word_at old k)
pass-set namings old now count i stands same within all end k inside =
    let at = (naming_at namings i).word in
    let in_old : at < length old = (stands.each_naming i within).inside in
    let new : Word = word_down count (word_at now at) in
    word-set now at k new (omega arith) (λ n w. n < length old → w ≡ word_passed count (i + 1) (word_at old n))
    (λ some.
    let e : (word_at old at).end ≡ i + 1 = pass-end count i (word_at old at) (word_at now at) (all at in_old) end in
    let w : word_at now at ≡ word_at old at = all at in_old ∙ ahead count i (word_at old at) (omega arith) in
    ap (word_down count) w ∙ sym (passed count (i + 1) (word_at old at) (omega arith)))
    (λ other some. pass-same count i (word_at old k) (word_at now k) (all k some) (λ is. other (sym (names-here namings old i k stands some is)))) inside

pub pass-all : (namings : List Naming) (old now : List Word) (count : ℕ) → Stands namings old → length now ≡ length old
    → ((k : ℕ) → k < length old → word_at now k ≡ word_passed count (length namings) (word_at old k)) → now ≡ map (word_down count) old
pass-all namings old now count stands same all =
    ext_get_or no_word now (map (word_down count) old) (same ∙ sym (length-map old (word_down count)))
    (λ k inside.
    let in_old : k < length old = omega arith in
    let e = (stands.each_word k in_old).end in
    all k in_old ∙ passed count (length namings) (word_at old k) (omega (arith, end-le k (live_of namings), length-map namings pair_of))
    ∙ sym (get_or-map (word_down count) old k no_word no_word in_old))
