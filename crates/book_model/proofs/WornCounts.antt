-- How many of a slave's namings fall on its words.
use Rattle.std.proofs.Common.{◌≡◌, ℕ, zero, suc, ◌+◌, ◌<◌, ◌≤◌, Bool, true, false, List, [], ◌∷◌, length, refl, sym, ◌∙◌, ap, arith}
use Rattle.std.proofs.lemmas.Bool.{ne_eqb, eqb-true}
use Rattle.std.specs.Prelude.{◌==◌, if◌then◌else◌}
use Rattle.std.proofs.lemmas.List.Sums.{sum_by-cons}
use Rattle.sii_words.specs.declared.run.Run.{Run}
use Rattle.book_model.specs.Cells.{Cell, since, owing, cell_of}
use Rattle.book_model.specs.Pending.{values_of}
use Rattle.book_model.specs.Entries.{namings, values}
use Rattle.book_model.specs.Open.{owing_words}
use Rattle.book_model.proofs.CellLaws.{length-all_named}
use Rattle.book_model.specs.Worn.{owed_in, since_in}

-- how many of the words from a place on are this one
abbrev hits : (word at : ℕ) → List Cell → ℕ
hits word at [] = 0
hits word at (cell ∷ cells) = (if word == at then 1 else 0) + hits word (suc at) cells

hits-past : (word at : ℕ) (cells : List Cell) → word < at → hits word at cells ≡ 0
hits-past word at [] past = refl
hits-past word at (cell ∷ cells) past =
    let no : (word == at) ≡ false = ne_eqb word at (omega arith) in
    rw no (omega (arith, hits-past word (suc at) cells (omega arith)))

hits-few : (word at : ℕ) (cells : List Cell) → hits word at cells ≤ 1
hits-few word at [] = omega arith
hits-few word at (cell ∷ cells) = one (word == at) refl (hits-few word (suc at) cells)
  where
    one : (c : Bool) → (word == at) ≡ c → hits word (suc at) cells ≤ 1 → (if c then 1 else 0) + hits word (suc at) cells ≤ 1
    one true is few = let same : word ≡ at = eqb-true word at is in omega (arith, hits-past word (suc at) cells (omega arith))
    one false is few = omega arith

-- how many values the namings give to the words from a place on
abbrev given : List (ℕ × ℕ) → (at : ℕ) → List Cell → ℕ
given ns at [] = 0
given ns at (cell ∷ cells) = length (values_of at ns) + given ns (suc at) cells

given-none : (at : ℕ) (cells : List Cell) → given [] at cells ≡ 0
given-none at [] = refl
given-none at (cell ∷ cells) = omega (arith, given-none (suc at) cells)

given-one : (n : ℕ × ℕ) (ns : List (ℕ × ℕ)) (at : ℕ) (cells : List Cell) → given (n ∷ ns) at cells ≡ hits n.0 at cells + given ns at cells
given-one n ns at [] = refl
given-one n ns at (cell ∷ cells) = one (n.0 == at) (given-one n ns (suc at) cells)
  where
    one : (c : Bool) → given (n ∷ ns) (suc at) cells ≡ hits n.0 (suc at) cells + given ns (suc at) cells → length (if c then n.1 ∷ values_of at ns else values_of at ns) + given (n ∷ ns) (suc at) cells
        ≡ ((if c then 1 else 0) + hits n.0 (suc at) cells) + (length (values_of at ns) + given ns (suc at) cells)
    one true later = omega arith
    one false later = omega arith

given-few : (ns : List (ℕ × ℕ)) (at : ℕ) (cells : List Cell) → given ns at cells ≤ length ns
given-few [] at cells = omega (arith, given-none at cells)
given-few (n ∷ ns) at cells = omega (arith, given-one n ns at cells, hits-few n.0 at cells, given-few ns at cells)

-- ---- a batch becomes live

pub owed-first : (cell : Cell) (cells : List Cell) → owed_in (cell ∷ cells) ≡ length cell.owed + owed_in cells
owed-first cell cells = sum_by-cons (λ (c : Cell). length c.owed) cell cells

pub since-first : (cell : Cell) (cells : List Cell) → since_in (cell ∷ cells) ≡ since cell.known + since_in cells
since-first cell cells = sum_by-cons (λ (c : Cell). since c.known) cell cells

owed-given : (runs : List Run) (slave at : ℕ) (cells : List Cell) → owed_in (owing_words runs slave at cells) ≤ owed_in cells + given (namings runs slave) at cells
owed-given runs slave at [] = omega arith
owed-given runs slave at (cell ∷ cells) =
    omega (arith, owed-given runs slave (suc at) cells, length-all_named cell.known cell.owed (values runs slave at), owed-first cell cells, owed-first (owing cell (values runs slave at)) (owing_words runs slave (suc at) cells))

pub owed-grows : (runs : List Run) (slave : ℕ) (cells : List Cell) → owed_in (owing_words runs slave 0 cells) ≤ owed_in cells + length (namings runs slave)
owed-grows runs slave cells = omega (arith, owed-given runs slave 0 cells, given-few (namings runs slave) 0 cells)

pub since-stays : (runs : List Run) (slave at : ℕ) (cells : List Cell) → since_in (owing_words runs slave at cells) ≡ since_in cells
since-stays runs slave at [] = refl
since-stays runs slave at (cell ∷ cells) =
    since-first (owing cell (values runs slave at)) (owing_words runs slave (suc at) cells) ∙ ap (λ (n : ℕ). since cell.known + n) (since-stays runs slave (suc at) cells) ∙ sym (since-first cell cells)

pub owing-at : (runs : List Run) (slave at : ℕ) (cells : List Cell) (k : ℕ) → (vs : List ℕ) × (cell_of (owing_words runs slave at cells) k ≡ owing (cell_of cells k) vs)
owing-at runs slave at [] k = ([], refl)
owing-at runs slave at (cell ∷ cells) zero = (values runs slave at, refl)
owing-at runs slave at (cell ∷ cells) (suc k) = owing-at runs slave (suc at) cells k
