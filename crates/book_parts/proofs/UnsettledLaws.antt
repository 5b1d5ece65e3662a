-- The first entry that isn't settled has the least number among those of the slaves, since the entries' numbers never fall.
use Rattle.std.proofs.Common.{◌≡◌, ◌⊎◌, inl, inr, ℕ, zero, suc, ◌+◌, ◌<◌, ◌≤◌, Bool, true, false, List, [], ◌∷◌, ◌++◌, length, get_or, map, refl, sym, ◌∙◌, ap, subst, arith, Option, Some, None, add-zero, zero-add, suc-add}
use Rattle.std.specs.Prelude.{◌&&◌, nat_le, slice_get}
use Rattle.std.proofs.lemmas.List.{length-append, get_or_past}
use Rattle.std.proofs.lemmas.Bool.{cases_eq}
use Rattle.jrn_format.specs.declared.journal.Entry.{Entry}
use Rattle.book_model.specs.Cells.{Cell, cell_of}
use Rattle.book_model.specs.Pending.{values_of, settled_count, namings_settled}
use Rattle.book_model.proofs.EndLaws.{le-true, values-append}
use Rattle.book_model.proofs.SettledLaws.{le-of, word-settled}
use Rattle.book_model.specs.Entries.{runs_of, namings, values}
use Rattle.book_model.specs.Book.{all_cells, cell_at}
use Rattle.book_model.specs.Reading.{settled_from, runs_settled}
use Rattle.book_parts.specs.declared.work.SlaveWork.{SlaveWork}
use Rattle.book_parts.specs.Line.{NeverFall, first_unsettled, OweNoMore}
use Rattle.book_parts.specs.Works.{work_at, slave_of, numbers_named, unsettled_of, smaller, least, WorkStands, LineStands, OweLive}
use Rattle.book_model.proofs.EndLaws.{other_test}
use Rattle.book_parts.proofs.EntryLaws.{namings-append}
use Rattle.book_model.proofs.SettledLaws.{and-right}
use Rattle.book_model.proofs.SettledLaws.{and-left}
use Rattle.book_parts.proofs.LeastLaws.{AtLeast, smaller-at_least, smaller-left, smaller-right}
use Rattle.book_model.proofs.TodoLaws.{bool_cases}

-- A SLAVE'S NAMINGS, AND THOSE BEHIND THEM

count-after : (cells : List Cell) (ns rest : List (ℕ × ℕ)) → namings_settled cells rest ns ≡ true → settled_count cells (ns ++ rest) ≡ length ns + settled_count cells rest
count-after cells [] rest all = sym (zero-add (settled_count cells rest))
count-after cells (n ∷ ns) rest all =
    let owed = length (cell_of cells n.0).owed in
    let here = nat_le owed (length (values_of n.0 rest)) in
    let le : owed ≤ length (values_of n.0 rest) = le-of owed (length (values_of n.0 rest)) (and-left here (namings_settled cells rest ns) all) in
    let more : length (values_of n.0 (ns ++ rest)) ≡ length (values_of n.0 ns) + length (values_of n.0 rest) = ap length (values-append n.0 ns rest) ∙ length-append (values_of n.0 ns) (values_of n.0 rest) in
    let later = count-after cells ns rest (and-right here (namings_settled cells rest ns) all) in
    rw (le-true owed (length (values_of n.0 (ns ++ rest))) (omega arith)) (omega (arith, later))

count-here : (cells : List Cell) (ns rest : List (ℕ × ℕ)) → namings_settled cells rest ns ≡ false → settled_count cells (ns ++ rest) < length ns
count-here cells [] rest not = absurd (cc)
count-here cells (n ∷ ns) rest not = one (bool_cases (nat_le owed (length (values_of n.0 (ns ++ rest))))) (bool_cases (namings_settled cells rest ns)) (λ fails. count-here cells ns rest fails)
  where
    owed : ℕ
    owed = length (cell_of cells n.0).owed

    both : (a b : Bool) → (a && b) ≡ false → b ≡ true → a ≡ false
    both true true fails holds = fails
    both true false fails holds = absurd (cc)
    both false b fails holds = refl

    over : nat_le owed (length (values_of n.0 (ns ++ rest))) ≡ true → namings_settled cells rest ns ≡ true → ⊥
    over holds all =
        let le : owed ≤ length (values_of n.0 (ns ++ rest)) = le-of owed (length (values_of n.0 (ns ++ rest))) holds in
        let more : length (values_of n.0 (ns ++ rest)) ≡ length (values_of n.0 ns) + length (values_of n.0 rest) = ap length (values-append n.0 ns rest) ∙ length-append (values_of n.0 ns) (values_of n.0 rest) in
        let fails : nat_le owed (length (values_of n.0 rest)) ≡ false = both (nat_le owed (length (values_of n.0 rest))) (namings_settled cells rest ns) not all in
        let few : owed ≤ length (values_of n.0 rest) = elim (word-settled cells rest ns n.0 all) [
          | inl none ↦ omega (arith, ap length none)
          | inr less ↦ less
        ] in
        let holds_here : nat_le owed (length (values_of n.0 rest)) ≡ true = le-true owed (length (values_of n.0 rest)) few in
        cc

    one : (nat_le owed (length (values_of n.0 (ns ++ rest))) ≡ true) ⊎ (nat_le owed (length (values_of n.0 (ns ++ rest))) ≡ false) → (namings_settled cells rest ns ≡ true) ⊎ (namings_settled cells rest ns ≡ false)
        → (namings_settled cells rest ns ≡ false → settled_count cells (ns ++ rest) < length ns) → settled_count cells (n ∷ (ns ++ rest)) < suc (length ns)
    one (inr fails) any later = rw fails (omega arith)
    one (inl holds) (inr fails) later = let l = later fails in rw holds (omega arith)
    one (inl holds) (inl all) later = absurd (over holds all)

number-after : (ns : List (ℕ × ℕ)) (number : ℕ) (rest : List ℕ) (k : ℕ) → slice_get (map (λ (n : ℕ × ℕ). number) ns ++ rest) (length ns + k) ≡ slice_get rest k
number-after [] number rest k = rw (zero-add k) refl
number-after (n ∷ ns) number rest k = rw (suc-add (length ns) k) (number-after ns number rest k)

number-here : (ns : List (ℕ × ℕ)) (number : ℕ) (rest : List ℕ) (k : ℕ) → k < length ns → slice_get (map (λ (n : ℕ × ℕ). number) ns ++ rest) k ≡ Some number
number-here [] number rest k lt = absurd (omega arith)
number-here (n ∷ ns) number rest zero lt = refl
number-here (n ∷ ns) number rest (suc k) lt = number-here ns number rest k (omega arith)

-- A SLAVE'S FIRST ENTRY THAT ISN'T SETTLED

abbrev unsettled_in : List Cell → List Entry → ℕ → Option ℕ
unsettled_in cells entries i = slice_get (numbers_named entries i) (settled_count cells (namings (runs_of entries) i))

slave-settled : (cells : List Cell) (e : Entry) (es : List Entry) (i : ℕ) → namings_settled cells (namings (runs_of es) i) (namings e.runs i) ≡ true → unsettled_in cells (e ∷ es) i ≡ unsettled_in cells es i
slave-settled cells e es i all =
    ap (λ (l : List (ℕ × ℕ)). slice_get (numbers_named (e ∷ es) i) (settled_count cells l)) (namings-append e.runs (runs_of es) i)
    ∙ ap (slice_get (numbers_named (e ∷ es) i)) (count-after cells (namings e.runs i) (namings (runs_of es) i) all)
    ∙ number-after (namings e.runs i) e.number (numbers_named es i) (settled_count cells (namings (runs_of es) i))

slave-owes : (cells : List Cell) (e : Entry) (es : List Entry) (i : ℕ) → namings_settled cells (namings (runs_of es) i) (namings e.runs i) ≡ false → unsettled_in cells (e ∷ es) i ≡ Some e.number
slave-owes cells e es i not =
    ap (λ (l : List (ℕ × ℕ)). slice_get (numbers_named (e ∷ es) i) (settled_count cells l)) (namings-append e.runs (runs_of es) i)
    ∙ number-here (namings e.runs i) e.number (numbers_named es i) (settled_count cells (namings e.runs i ++ namings (runs_of es) i)) (count-here cells (namings e.runs i) (namings (runs_of es) i) not)

-- no number is less than that of the first entry
abbrev NotBelow : ℕ → List Entry → Type 0
NotBelow n es = (j : ℕ) (d : Entry) → j < length es → n ≤ (get_or es j d).number

abbrev NoneBelow : ℕ → List ℕ → Type 0
NoneBelow n [] = Unit {0}
NoneBelow n (x ∷ xs) = (n ≤ x) × NoneBelow n xs

none-below-same : (n m : ℕ) (ns : List (ℕ × ℕ)) (rest : List ℕ) → n ≤ m → NoneBelow n rest → NoneBelow n (map (λ (x : ℕ × ℕ). m) ns ++ rest)
none-below-same n m [] rest le none = none
none-below-same n m (x ∷ xs) rest le none = (le, none-below-same n m xs rest le none)

none-below-numbers : (n : ℕ) (es : List Entry) (i : ℕ) → NotBelow n es → NoneBelow n (numbers_named es i)
none-below-numbers n [] i not = tt
none-below-numbers n (e ∷ es) i not =
    none-below-same n e.number (namings e.runs i) (numbers_named es i) (not 0 e (omega arith)) (none-below-numbers n es i (λ j d lt. not (suc j) d (omega arith)))

none-below-get : (n : ℕ) (xs : List ℕ) (k : ℕ) → NoneBelow n xs → AtLeast n (slice_get xs k)
none-below-get n [] k none = tt
none-below-get n (x ∷ xs) zero none = none.0
none-below-get n (x ∷ xs) (suc k) none = none-below-get n xs k none.1

slave-at_least : (cells : List Cell) (es : List Entry) (i n : ℕ) → NotBelow n es → AtLeast n (unsettled_in cells es i)
slave-at_least cells es i n not = none-below-get n (numbers_named es i) (settled_count cells (namings (runs_of es) i)) (none-below-numbers n es i not)

-- ALL SLAVES, FROM A NUMBER ON

abbrev unsettled_from : ℕ → List (List Cell) → List Entry → List (Option ℕ)
unsettled_from i [] es = []
unsettled_from i (cells ∷ others) es = unsettled_in cells es i ∷ unsettled_from (suc i) others es

none-left : (i : ℕ) (cells : List (List Cell)) → least (unsettled_from i cells []) ≡ None
none-left i [] = refl
none-left i (c ∷ cs) = none-left (suc i) cs

from-at_least : (i : ℕ) (cells : List (List Cell)) (es : List Entry) (n : ℕ) → NotBelow n es → AtLeast n (least (unsettled_from i cells es))
from-at_least i [] es n not = tt
from-at_least i (c ∷ cs) es n not = smaller-at_least n (unsettled_in c es i) (least (unsettled_from (suc i) cs es)) (slave-at_least c es i n not) (from-at_least (suc i) cs es n not)

all-settled : (i : ℕ) (cells : List (List Cell)) (e : Entry) (es : List Entry) → settled_from i cells (runs_of es) e.runs ≡ true → unsettled_from i cells (e ∷ es) ≡ unsettled_from i cells es
all-settled i [] e es all = refl
all-settled i (c ∷ cs) e es all =
    let here = namings_settled c (namings (runs_of es) i) (namings e.runs i) in
    let others = settled_from (suc i) cs (runs_of es) e.runs in
    ap (λ (n : Option ℕ). n ∷ unsettled_from (suc i) cs (e ∷ es)) (slave-settled c e es i (and-left here others all))
    ∙ ap (λ (l : List (Option ℕ)). unsettled_in c es i ∷ l) (all-settled (suc i) cs e es (and-right here others all))

one-owes : (i : ℕ) (cells : List (List Cell)) (e : Entry) (es : List Entry) → NotBelow e.number (e ∷ es) → settled_from i cells (runs_of es) e.runs ≡ false → least (unsettled_from i cells (e ∷ es)) ≡ Some e.number
one-owes i [] e es not fails = absurd (cc)
one-owes i (c ∷ cs) e es not fails = one (bool_cases (namings_settled c (namings (runs_of es) i) (namings e.runs i))) (λ later. one-owes (suc i) cs e es not later)
  where
    rest : Option ℕ
    rest = least (unsettled_from (suc i) cs (e ∷ es))

    one : (namings_settled c (namings (runs_of es) i) (namings e.runs i) ≡ true) ⊎ (namings_settled c (namings (runs_of es) i) (namings e.runs i) ≡ false)
        → (settled_from (suc i) cs (runs_of es) e.runs ≡ false → rest ≡ Some e.number) → least (unsettled_from i (c ∷ cs) (e ∷ es)) ≡ Some e.number
    one (inr owes) later =
        ap (λ (n : Option ℕ). least (n ∷ unsettled_from (suc i) cs (e ∷ es))) (slave-owes c e es i owes) ∙ smaller-left e.number rest (from-at_least (suc i) cs (e ∷ es) e.number not)
    one (inl holds) later =
        ap (smaller (unsettled_in c (e ∷ es) i)) (later (rw holds at fails)) ∙ smaller-right e.number (unsettled_in c (e ∷ es) i) (slave-at_least c (e ∷ es) i e.number not)

first-is : (cells : List (List Cell)) (es : List Entry) → NeverFall es → least (unsettled_from 0 cells es) ≡ first_unsettled cells es
first-is cells [] order = none-left 0 cells
first-is cells (e ∷ es) order = one (bool_cases (runs_settled cells (runs_of es) e.runs)) (first-is cells es (λ i j d le lt. order (suc i) (suc j) d (omega arith) (omega arith)))
  where
    one : (runs_settled cells (runs_of es) e.runs ≡ true) ⊎ (runs_settled cells (runs_of es) e.runs ≡ false) → least (unsettled_from 0 cells es) ≡ first_unsettled cells es
        → least (unsettled_from 0 cells (e ∷ es)) ≡ first_unsettled cells (e ∷ es)
    one (inl all) later = rw all (ap least (all-settled 0 cells e es all) ∙ later)
    one (inr fails) later = rw fails (one-owes 0 cells e es (λ j d lt. order 0 j d (omega arith) lt) fails)

-- AS THE LINE SAYS IT

work-unsettled : (w : SlaveWork) (i : ℕ) (older newer : List Entry) → WorkStands w i older newer → unsettled_of w ≡ unsettled_in w.queue.cells (older ++ newer) i
work-unsettled w i older newer stands =
    ap (λ (l : List ℕ). slice_get l (settled_count w.queue.cells w.queue.live)) stands.numbers
    ∙ ap (λ (l : List (ℕ × ℕ)). slice_get (numbers_named (older ++ newer) i) (settled_count w.queue.cells l)) stands.live

works-unsettled : (works : List SlaveWork) (i : ℕ) (older newer : List Entry) → ((k : ℕ) → k < length works → WorkStands (work_at works k) (i + k) older newer)
    → map unsettled_of works ≡ unsettled_from i (all_cells (map slave_of works)) (older ++ newer)
works-unsettled [] i older newer stand = refl
works-unsettled (w ∷ ws) i older newer stand =
    let here : WorkStands w i older newer = subst (λ (n : ℕ). WorkStands w n older newer) (add-zero i) (stand 0 (omega arith)) in
    ap (λ (n : Option ℕ). n ∷ map unsettled_of ws) (work-unsettled w i older newer here)
    ∙ ap (λ (l : List (Option ℕ)). unsettled_in w.queue.cells (older ++ newer) i ∷ l)
    (works-unsettled ws (suc i) older newer (λ k lt. let s : i + suc k ≡ suc i + k = omega arith in subst (λ (n : ℕ). WorkStands (work_at ws k) n older newer) s (stand (suc k) (omega arith))))

pub unsettled-is : (works : List SlaveWork) (older newer : List Entry) → LineStands works older newer → least (map unsettled_of works) ≡ first_unsettled (all_cells (map slave_of works)) (older ++ newer)
unsettled-is works older newer stands =
    ap least (works-unsettled works 0 older newer (λ k lt. let z : k ≡ 0 + k = omega arith in subst (λ (n : ℕ). WorkStands (work_at works k) n older newer) z (stands.each k lt)))
    ∙ first-is (all_cells (map slave_of works)) (older ++ newer) stands.order

-- WHAT IS OWED

length-all_cells : (works : List SlaveWork) → length (all_cells (map slave_of works)) ≡ length works
length-all_cells [] = refl
length-all_cells (w ∷ ws) = ap suc (length-all_cells ws)

cells-at : (works : List SlaveWork) (k : ℕ) → k < length works → get_or (all_cells (map slave_of works)) k [] ≡ (work_at works k).queue.cells
cells-at [] k lt = absurd (omega arith)
cells-at (w ∷ ws) zero lt = refl
cells-at (w ∷ ws) (suc k) lt = cells-at ws k (omega arith)

pub owe-no-more : (works : List SlaveWork) (older newer : List Entry) → LineStands works older newer → OweLive works (length works) → OweNoMore (map slave_of works) (older ++ newer)
owe-no-more works older newer stands owe = λ k at. one k at (sides k (length works))
  where
    sides : (m n : ℕ) → (m < n) ⊎ (n ≤ m)
    sides m n = grind arith

    one : (k at : ℕ) → (k < length works) ⊎ (length works ≤ k) → length (cell_at (all_cells (map slave_of works)) k at).owed ≤ length (values (runs_of (older ++ newer)) k at)
    one k at (inr out) = rw (get_or_past (all_cells (map slave_of works)) k [] (omega (arith, length-all_cells works))) (omega arith)
    one k at (inl inside) =
        rw (cells-at works k inside)
        (subst (λ (l : List (ℕ × ℕ)). length (cell_of (work_at works k).queue.cells at).owed ≤ length (values_of at l)) (stands.each k inside).live (owe k at inside))
