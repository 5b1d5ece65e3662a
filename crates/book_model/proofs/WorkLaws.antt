-- The word that the book issues is one that is owed the value.
use Rattle.std.proofs.Common.{◌≡◌, inl, inr, ℕ, ◌<◌, Bool, true, false, List, [], ◌∷◌, ◌++◌, length, get_or, set, refl, sym, ◌∙◌, ap, subst, arith, Some}
use Rattle.std.specs.Prelude.{◌==◌, slice_get, filter}
use Rattle.std.specs.List.{AllByRecursion}
use Rattle.std.proofs.lemmas.Bool.{cases_lt, eq-eqb}
use Rattle.std.proofs.lemmas.List.{get_or_past}
use Rattle.esc_model.specs.SlaveHalf.{SlaveHalf}
use Rattle.site_core.specs.State.{State, with_half}
use Rattle.jrn_format.specs.Halves.{live}
use Rattle.book_model.specs.Cells.{Cell, is_any, cell_of}
use Rattle.book_model.specs.Cells.{nothing as no_cell}
use Rattle.book_model.specs.Pending.{values_of, last_of}
use Rattle.book_model.specs.Entries.{live_runs, namings}
use Rattle.book_model.specs.Book.{Book, slave_at}
use Rattle.book_model.specs.RomSteps.{to_do, with_issue}
use Rattle.book_model.specs.Machine.{Machine}
use Rattle.book_model.specs.Owed.{IsAmong, CellFits, due, redone_word}
use Rattle.book_model.specs.Plants.{word_at}
use Rattle.book_model.specs.Frame.{JournalFrame}
use Rattle.book_model.proofs.BookLaws.{cells_of, length-all_cells}
use Rattle.book_model.proofs.CellLaws.{redone-due}
use Rattle.book_model.proofs.IssueLaws.{issue-among}
use Rattle.book_model.specs.Steps.{TakesOrNot}
use Rattle.book_model.specs.Up.{Up}
use Rattle.book_model.proofs.RomLaws.{up-issues}

-- ---- the last naming of a word

-- these namings give the word of this one its value last
abbrev pub IsLast : List (ℕ × ℕ) → ℕ × ℕ → Type 0
IsLast ns n = (word : ℕ) → due word (values_of n.0 ns) ≡ n.1

last-after : (n k : ℕ × ℕ) (ns : List (ℕ × ℕ)) → IsLast ns k → IsLast (n ∷ ns) k
last-after n k ns last = λ word. one (n.0 == k.0) refl word
  where
    one : (c : Bool) → (n.0 == k.0) ≡ c → (word : ℕ) → due word (values_of k.0 (n ∷ ns)) ≡ k.1
    one true is word = rw is (last n.1)
    one false is word = rw is (last word)

all-after : (n : ℕ × ℕ) (ns ks : List (ℕ × ℕ)) → AllByRecursion (IsLast ns) ks → AllByRecursion (IsLast (n ∷ ns)) ks
all-after n ns [] all = tt
all-after n ns (k ∷ ks) all = (last-after n k ns all.0, all-after n ns ks all.1)

none-of : (vs : List ℕ) → is_any vs ≡ false → vs ≡ []
none-of [] is = refl
none-of (v ∷ vs) is = absurd cc

last-first : (n : ℕ × ℕ) (ns : List (ℕ × ℕ)) → AllByRecursion (IsLast ns) (last_of ns) → (c : Bool) → is_any (values_of n.0 ns) ≡ c → AllByRecursion (IsLast (n ∷ ns)) (last_of (n ∷ ns))
last-first n ns all true is = rw is (all-after n ns (last_of ns) all)
last-first n ns all false is =
    let here : (n.0 == n.0) ≡ true = eq-eqb n.0 n.0 refl in
    rw is (λ word. rw (here, none-of (values_of n.0 ns) is) refl, all-after n ns (last_of ns) all)

pub last-all : (ns : List (ℕ × ℕ)) → AllByRecursion (IsLast ns) (last_of ns)
last-all [] = tt
last-all (n ∷ ns) = last-first n ns (last-all ns) (is_any (values_of n.0 ns)) refl

-- the first element that passes a test
abbrev FirstIs : {A : Type 0} (P : A → Type 0) (test : A → Bool) (xs : List A) → Type 0
FirstIs {A} P test xs = (x : A) (rest : List A) → filter test xs ≡ x ∷ rest → P x × (test x ≡ true)

first-if : {A : Type 0} (P : A → Type 0) (test : A → Bool) (y : A) (ys : List A) → P y → FirstIs P test ys → (c : Bool) → test y ≡ c → FirstIs P test (y ∷ ys)
first-if P test y ys here later true passes x rest is =
    let e : y ∷ filter test ys ≡ x ∷ rest = sym (rw passes refl) ∙ is in
    let same : y ≡ x = cc in
    (subst P same here, ap test (sym same) ∙ passes)
first-if P test y ys here later false fails x rest is =
    let e : filter test ys ≡ x ∷ rest = sym (rw fails refl) ∙ is in
    later x rest e

first-of : {A : Type 0} (P : A → Type 0) (test : A → Bool) (xs : List A) → AllByRecursion P xs → FirstIs P test xs
first-of P test [] all x rest is = absurd cc
first-of P test (y ∷ ys) all x rest is = first-if P test y ys all.0 (first-of P test ys all.1) (test y) refl x rest is

-- ---- a word that is to be written

pub some-of : (owed : List ℕ) → is_any owed ≡ true → 0 < length owed
some-of [] is = absurd cc
some-of (v ∷ owed) is = omega arith

pub owed-inside : (cells : List Cell) (at : ℕ) → is_any (cell_of cells at).owed ≡ true → at < length cells
owed-inside cells at some = elim (cases_lt at (length cells)) [
  | inl within ↦ within
  | inr past ↦ let none : cell_of cells at ≡ no_cell = get_or_past cells at no_cell past in let no : is_any (cell_of cells at).owed ≡ false = ap (λ (c : Cell). is_any c.owed) none in absurd cc
]

-- what the book is to do is asked of a word of the slave, and the value is among what is owed
pub to_do-owed : (frame : JournalFrame) (book : Book) (state : State) (took : List Bool) (m : Machine) (i : ℕ) (w : ℕ × ℕ) (others : List (ℕ × ℕ)) → Up frame book state took m → i < length book.slaves → to_do book i ≡ w ∷ others
    → (w.0 < length (slave_at book i).cells) × IsAmong w.1 (cell_of (slave_at book i).cells w.0).owed
to_do-owed frame book state took m i w others up within is =
    let lives = live_runs (live book.halves) in
    let cells = (slave_at book i).cells in
    let first = first-of (IsLast (namings lives i)) (λ (n : ℕ × ℕ). is_any (cell_of cells n.0).owed) (last_of (namings lives i)) (last-all (namings lives i)) w others is in
    let inside = owed-inside cells w.0 first.1 in
    let there = cells_of book.slaves i in
    let own = word_at book.words i w.0 in
    let fit : CellFits lives i w.0 (redone_word (up.gone ++ lives) i w.0 own) (cell_of cells w.0) =
    subst (λ (l : List Cell). CellFits lives i w.0 (redone_word (up.gone ++ lives) i w.0 own) (get_or l w.0 no_cell)) there
    (up.fits.fit i w.0 (omega (arith, within, length-all_cells book.slaves, up.same.slaves)) (omega (arith, inside, ap length there, up.same.words i))) in
    let value : redone_word lives i w.0 0 ≡ w.1 = redone-due lives i w.0 0 ∙ first.0 0 in
    (inside, subst (λ (v : ℕ). IsAmong v (cell_of cells w.0).owed) value (issue-among up.gone lives i w.0 own 0 (cell_of cells w.0) fit (some-of (cell_of cells w.0).owed first.1)))

pub up-works : (frame : JournalFrame) (book : Book) (state : State) (took : List Bool) (m : Machine) (i : ℕ) (half later : SlaveHalf) (w : ℕ × ℕ) (others : List (ℕ × ℕ)) (t : Bool) → Up frame book state took m → i < length book.slaves
    → slice_get state.halves i ≡ Some half → to_do book i ≡ w ∷ others → TakesOrNot t i w.0 w.1 half later → Up frame (with_issue book i w) (with_half state i later) (set took i t) m
up-works frame book state took m i half later w others t up within there is takes =
    let owed = to_do-owed frame book state took m i w others up within is in
    up-issues frame book state took m i half later w t up within there owed.0 owed.1 takes
