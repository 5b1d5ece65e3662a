-- The queue against the book's cells.
use Rattle.std.proofs.Common.{◌≡◌, ◌≢◌, ◌⊎◌, inl, inr, ℕ, zero, suc, ◌+◌, ◌<◌, ◌≤◌, true, false, List, [], ◌∷◌, length, drop, set, get_or, refl, sym, ◌∙◌, ap, subst, arith, Some, None, add-zero, add-suc, suc-add, zero-add}
use Rattle.std.proofs.lemmas.List.{get_or_read, drop_all, drop_more, length-map, get_or_past, length-set, get_or-set_same, get_or-set_other}
use Rattle.std.proofs.lemmas.Bool.{cases_eq}
use Rattle.book_model.specs.Cells.{is_any}
use Rattle.book_model.specs.Cells.{Cell, Known, Unsure, asked, next_issue}
use Rattle.book_model.specs.Cells.{nothing}
use Rattle.book_model.specs.Cells.{cell_of, since}
use Rattle.book_model.specs.declared.due.Naming.{Naming}
use Rattle.book_model.specs.declared.due.Word.{Word}
use Rattle.book_model.specs.declared.due.Held.{Held}
use Rattle.book_model.specs.Pending.{Pending, values_of, to_do, first, issued}
use Rattle.book_model.specs.Queue.{no_naming, no_word, pair_of, live_of, numbers_of, known_of, cell_for, cells_from, end_of, WordStands, IsPast, word_at, naming_at, Stands, Cursor, IsDue, pending_of}
use Rattle.book_model.proofs.EndLaws.{none-after, some-ahead, end-names}
use Rattle.book_model.proofs.TodoLaws.{todo-skips, todo-first}

pub live-at : (namings : List Naming) (place : ℕ) → get_or (live_of namings) place (pair_of no_naming) ≡ pair_of (naming_at namings place)
live-at [] place = refl
live-at (n ∷ ns) zero = refl
live-at (n ∷ ns) (suc place) = live-at ns place

pub length-cells : (live : List (ℕ × ℕ)) (at : ℕ) (words : List Word) → length (cells_from live at words) ≡ length words
length-cells live at [] = refl
length-cells live at (w ∷ ws) = ap suc (length-cells live (suc at) ws)

pub cells-at : (live : List (ℕ × ℕ)) (at : ℕ) (words : List Word) (k : ℕ) → k < length words → get_or (cells_from live at words) k nothing ≡ cell_for live (at + k) (word_at words k)
cells-at live at [] k within = absurd (omega arith)
cells-at live at (w ∷ ws) zero within = rw add-zero refl
cells-at live at (w ∷ ws) (suc k) within = rw (add-suc at k, ← suc-add at k) (cells-at live (suc at) ws k (omega arith))

pub cell-at : (live : List (ℕ × ℕ)) (words : List Word) (k : ℕ) → k < length words → cell_of (cells_from live 0 words) k ≡ cell_for live k (word_at words k)
cell-at live words k within = let e = cells-at live 0 words k within in rw zero-add at e

pub cells-set : (live : List (ℕ × ℕ)) (at : ℕ) (words : List Word) (k : ℕ) (word : Word) → cells_from live at (set words k word) ≡ set (cells_from live at words) k (cell_for live (at + k) word)
cells-set live at [] k word = refl
cells-set live at (w ∷ ws) zero word = rw add-zero refl
cells-set live at (w ∷ ws) (suc k) word = rw (add-suc at k, ← suc-add at k) (ap (λ (l : List Cell). cell_for live at w ∷ l) (cells-set live (suc at) ws k word))

pub cell-set : (live : List (ℕ × ℕ)) (words : List Word) (k : ℕ) (word : Word) → cells_from live 0 (set words k word) ≡ set (cells_from live 0 words) k (cell_for live k word)
cell-set live words k word = let e = cells-set live 0 words k word in rw zero-add at e

-- THE CURSOR

pub cursor-more : (namings : List Naming) (words : List Word) (place : ℕ) → Stands namings words → Cursor place namings words → place < length namings → (IsDue namings words place → ⊥) → Cursor (place + 1) namings words
cursor-more namings words place stands cursor within not = record {
  inside = omega arith;
  past = λ at inside le. one at inside le (cases_eq (word_at words at).end (place + 1));
}
  where
    one : (at : ℕ) → at < length words → (word_at words at).end ≤ place + 1 → ((word_at words at).end ≡ place + 1) ⊎ ((word_at words at).end ≢ place + 1) → (word_at words at).end ≤ (word_at words at).mark
    one at inside le (inr other) = cursor.past at inside (omega arith)
    one at inside le (inl is) =
        let e = (stands.each_word at inside).end in
        let n : (get_or (live_of namings) place (pair_of no_naming)).0 ≡ at = end-names at place (live_of namings) (pair_of no_naming) (omega arith) in
        let named : (naming_at namings place).word ≡ at = ap (λ (p : ℕ × ℕ). p.0) (sym (live-at namings place)) ∙ n in
        last at is named (mark-cases (word_at words at).mark)
      where
        mark-cases : (mark : ℕ) → (mark ≤ place) ⊎ (place + 1 ≤ mark)
        mark-cases mark = grind arith

        last : (at : ℕ) → (word_at words at).end ≡ place + 1 → (naming_at namings place).word ≡ at → ((word_at words at).mark ≤ place) ⊎ (place + 1 ≤ (word_at words at).mark) → (word_at words at).end ≤ (word_at words at).mark
        last at is named (inr settled) = omega arith
        last at is named (inl owed) = absurd (not (record {
          last = rw named is;
          owed = rw named owed;
        }))

-- THE NEXT ISSUE

any-nil : (l : List ℕ) → l ≡ [] → is_any l ≡ false
any-nil l is = rw is refl

owes-nothing : (namings : List Naming) (words : List Word) (cursor : ℕ) → Stands namings words → Cursor cursor namings words
    → (at : ℕ) → end_of at (live_of namings) ≤ cursor → is_any (cell_of (cells_from (live_of namings) 0 words) at).owed ≡ false
owes-nothing namings words cursor stands past at le = one (within-cases at (length words))
  where
    within-cases : (k n : ℕ) → (k < n) ⊎ (n ≤ k)
    within-cases k n = grind arith

    one : (at < length words) ⊎ (length words ≤ at) → is_any (cell_of (cells_from (live_of namings) 0 words) at).owed ≡ false
    one (inr out) = rw (get_or_past (cells_from (live_of namings) 0 words) at nothing (omega (arith, length-cells (live_of namings) 0 words))) refl
    one (inl inside) =
        let e = (stands.each_word at inside).end in
        let p = past.past at inside (omega arith) in
        rw (cell-at (live_of namings) words at inside) (any-nil (values_of at (drop (word_at words at).mark (live_of namings))) (none-after at (word_at words at).mark (live_of namings) (omega arith)))

pub next-none : (namings : List Naming) (words : List Word) (cursor : ℕ) → Stands namings words → Cursor cursor namings words → length namings ≤ cursor → first (to_do (cells_from (live_of namings) 0 words) (live_of namings)) ≡ None
next-none namings words cursor stands past end =
    ap first (todo-skips (cells_from (live_of namings) 0 words) cursor (live_of namings) (owes-nothing namings words cursor stands past)
    ∙ ap (to_do (cells_from (live_of namings) 0 words)) (drop_all cursor (live_of namings) (omega (arith, length-map namings pair_of))))

pub next-some : (namings : List Naming) (words : List Word) (cursor : ℕ) → Stands namings words → Cursor cursor namings words → cursor < length namings → IsDue namings words cursor
    → first (to_do (cells_from (live_of namings) 0 words) (live_of namings)) ≡ Some (pair_of (naming_at namings cursor))
next-some namings words cursor stands past within due =
    let live = live_of namings in
    let cells = cells_from live 0 words in
    let n = naming_at namings cursor in
    let inside : n.word < length words = (stands.each_naming cursor within).inside in
    let e = (stands.each_word n.word inside).end in
    let split : drop cursor live ≡ pair_of n ∷ drop (cursor + 1) live = drop_more live cursor (pair_of no_naming) (omega (arith, length-map namings pair_of)) ∙ ap (λ (p : ℕ × ℕ). p ∷ drop (cursor + 1) live) (live-at namings cursor) in
    let owes : is_any (cell_of cells n.word).owed ≡ true = rw (cell-at live words n.word inside) (some-ahead n.word (word_at words n.word).mark live (omega (arith, due.last, due.owed))) in
    ap first (todo-skips cells cursor live (owes-nothing namings words cursor stands past) ∙ ap (to_do cells) split)
    ∙ todo-first cells (pair_of n) (drop (cursor + 1) live) (none-after n.word (cursor + 1) live (omega (arith, due.last))) owes

-- the word to be issued is asked for
pub asks : (namings : List Naming) (words : List Word) (room at value : ℕ) (held : Held) → at < length words → known_of held ≡ Unsure (next_issue (known_of (word_at words at).held))
    → pending_of namings (set words at (record { held = held; end = (word_at words at).end; mark = (word_at words at).mark })) room ≡ issued (pending_of namings words room) (Some (at, value))
asks namings words room at value held within is =
    let live = live_of namings in
    let w = word_at words at in
    let now : Word = record { held = held; end = w.end; mark = w.mark } in
    let here : cell_for live at now ≡ asked (cell_of (cells_from live 0 words) at) =
    ap (λ (k : Known). let c : Cell = record { known = k; owed = values_of at (drop w.mark live) } in c) is ∙ sym (ap asked (cell-at live words at within)) in
    ap (λ (l : List Cell). let p : Pending = record { cells = l; live = live; numbers = numbers_of namings; room = room } in p) (cell-set live words at now ∙ ap (λ (c : Cell). set (cells_from live 0 words) at c) here)

-- as the code reads them
pub next-here : (namings : List Naming) (words : List Word) (cursor : ℕ) (naming : Naming) → Stands namings words → Cursor cursor namings words → cursor < length namings → IsDue namings words cursor
    → naming ≡ get_or namings cursor naming → Some (naming.word, naming.value) ≡ first (to_do (cells_from (live_of namings) 0 words) (live_of namings))
next-here namings words cursor naming stands past within due read =
    ap (λ (n : Naming). Some (pair_of n)) (get_or_read namings cursor naming within read no_naming) ∙ sym (next-some namings words cursor stands past within due)

pub asks-here : (namings : List Naming) (words : List Word) (room cursor : ℕ) (naming : Naming) (word : Word) (held : Held) → Stands namings words → Cursor cursor namings words → cursor < length namings → IsDue namings words cursor
    → naming ≡ get_or namings cursor naming → word ≡ get_or words naming.word word → known_of held ≡ Unsure (next_issue (known_of word.held))
    → pending_of namings (set words naming.word (record { held = held; end = word.end; mark = word.mark })) room ≡ issued (pending_of namings words room) (first (to_do (cells_from (live_of namings) 0 words) (live_of namings)))
asks-here namings words room cursor naming word held stands past within due read has is =
    let n : naming ≡ naming_at namings cursor = get_or_read namings cursor naming within read no_naming in
    let inside : naming.word < length words = subst (λ (k : Naming). k.word < length words) (sym n) ((stands.each_naming cursor within).inside) in
    let w : word ≡ word_at words naming.word = get_or_read words naming.word word inside has no_word in
    let now : known_of held ≡ Unsure (next_issue (known_of (word_at words naming.word).held)) = is ∙ ap (λ (v : Word). Unsure (next_issue (known_of v.held))) w in
    ap (λ (v : Word). pending_of namings (set words naming.word (record { held = held; end = v.end; mark = v.mark })) room) w
    ∙ asks namings words room naming.word naming.value held inside now
    ∙ ap (issued (pending_of namings words room)) (next-here namings words cursor naming stands past within due read)

pub may-ask : (namings : List Naming) (words : List Word) (cursor : ℕ) (naming : Naming) (word : Word) → Stands namings words → cursor < length namings
    → naming ≡ get_or namings cursor naming → word ≡ get_or words naming.word word → ((at : ℕ) → since (cell_of (cells_from (live_of namings) 0 words) at).known < 255) → since (known_of word.held) < 255
may-ask namings words cursor naming word stands within read has few =
    let n : naming ≡ naming_at namings cursor = get_or_read namings cursor naming within read no_naming in
    let inside : naming.word < length words = subst (λ (k : Naming). k.word < length words) (sym n) ((stands.each_naming cursor within).inside) in
    let w : word ≡ word_at words naming.word = get_or_read words naming.word word inside has no_word in
    subst (λ (v : Word). since (known_of v.held) < 255) (sym w) (subst (λ (c : Cell). since c.known < 255) (cell-at (live_of namings) words naming.word inside) (few naming.word))

-- A WORD CHANGES

pub word-set : (words : List Word) (at k : ℕ) (word : Word) → at < length words → (P : ℕ → Word → Type 0) → P at word → (k ≢ at → P k (word_at words k)) → P k (word_at (set words at word) k)
word-set words at k word within P here other = elim (cases_eq k at) [
  | inl is ↦ subst (λ (i : ℕ). P i (word_at (set words at word) i)) (sym is) (rw (get_or-set_same words at word no_word within) here)
  | inr not ↦ rw (get_or-set_other words at k word no_word not) (other not)
]

pub stands-set : (namings : List Naming) (words : List Word) (at : ℕ) (word : Word) → Stands namings words → at < length words → WordStands (live_of namings) at word → Stands namings (set words at word)
stands-set namings words at word stands within here = record {
  each_word = λ k inside. word-set words at k word within (WordStands (live_of namings)) here (λ other. stands.each_word k (omega (arith, length-set words at word)));
  each_naming = λ p inside. let n = stands.each_naming p inside in record { inside = omega (arith, n.inside, length-set words at word); before = n.before };
}

pub cursor-set : (namings : List Naming) (words : List Word) (cursor at : ℕ) (word : Word) → Cursor cursor namings words → at < length words → IsPast cursor word → Cursor cursor namings (set words at word)
cursor-set namings words cursor at word past within here = record {
  inside = past.inside;
  past = λ k inside. word-set words at k word within (λ i w. IsPast cursor w) here (λ other. past.past k (omega (arith, length-set words at word)));
}

-- a cell for each word
pub inside-words : (namings : List Naming) (words : List Word) (room at : ℕ) (p : Pending) → pending_of namings words room ≡ p → at < length p.cells → at < length words
inside-words namings words room at p is within = let e = ap (λ (q : Pending). length q.cells) is in omega (arith, e, length-cells (live_of namings) 0 words)

-- what the word holds, as the code reads it
pub held-at : (namings : List Naming) (words : List Word) (room at : ℕ) (word : Word) → at < length words → word ≡ get_or words at word
    → since (known_of word.held) ≡ since (cell_of (pending_of namings words room).cells at).known
held-at namings words room at word within read =
    ap (λ (w : Word). since (known_of w.held)) (get_or_read words at word within read no_word) ∙ sym (ap (λ (c : Cell). since c.known) (cell-at (live_of namings) words at within))
