-- The values that words must still be given, after a call.
use Rattle.std.proofs.Common.{◌≡◌, ℕ, zero, suc, ◌+◌, ◌≤◌, List, [], ◌∷◌, length, get_or, set, refl, ap, subst, arith, zero-add}
use Rattle.sii_words.specs.declared.run.Run.{Run}
use Rattle.book_model.specs.Cells.{Cell, Holds, all_named, cell_of, asked, written}
use Rattle.book_model.specs.Entries.{values}
use Rattle.book_model.specs.Book.{Slave, nobody, all_cells, cell_at}
use Rattle.book_model.specs.Open.{owing_slaves}
use Rattle.book_model.specs.Fits.{OwesNoMore}
use Rattle.book_model.proofs.CellLaws.{length-all_named}
use Rattle.book_core.proofs.LiveLaws.{owes-slave}

-- ---- one slave

-- no more is owed to any word
abbrev pub OweLess : List Cell → List Cell → Type 0
OweLess old new = (at : ℕ) → length (cell_of new at).owed ≤ length (cell_of old at).owed

pub owe-same : (cells : List Cell) → OweLess cells cells
owe-same cells at = omega arith

pub owe-set : (cells : List Cell) (at : ℕ) (cell : Cell) → length cell.owed ≤ length (cell_of cells at).owed → OweLess cells (set cells at cell)
owe-set [] at cell le k = omega arith
owe-set (c ∷ cs) zero cell le zero = le
owe-set (c ∷ cs) zero cell le (suc k) = omega arith
owe-set (c ∷ cs) (suc at) cell le zero = omega arith
owe-set (c ∷ cs) (suc at) cell le (suc k) = owe-set cs at cell le k

pub owe-asked : (cells : List Cell) (at : ℕ) → OweLess cells (set cells at (asked (cell_of cells at)))
owe-asked cells at = owe-set cells at (asked (cell_of cells at)) (omega arith)

pub owe-written : (cells : List Cell) (at value : ℕ) → OweLess cells (set cells at (written (cell_of cells at) value))
owe-written cells at value = owe-set cells at (written (cell_of cells at) value)
    (subst (λ (n : ℕ). length (all_named (Holds value) [] (cell_of cells at).owed) ≤ n) (zero-add (length (cell_of cells at).owed)) (length-all_named (Holds value) [] (cell_of cells at).owed))

-- ---- all slaves

pub count-set : (slaves : List Slave) (i : ℕ) (s : Slave) → length (all_cells (set slaves i s)) ≡ length (all_cells slaves)
count-set [] i s = refl
count-set (t ∷ ts) zero s = refl
count-set (t ∷ ts) (suc i) s = ap suc (count-set ts i s)

owes-less : (slaves : List Slave) (i : ℕ) (s : Slave) → OweLess (get_or slaves i nobody).cells s.cells
    → (k at : ℕ) → length (cell_at (all_cells (set slaves i s)) k at).owed ≤ length (cell_at (all_cells slaves) k at).owed
owes-less [] i s le k at = omega arith
owes-less (t ∷ ts) zero s le zero at = le at
owes-less (t ∷ ts) zero s le (suc k) at = omega arith
owes-less (t ∷ ts) (suc i) s le zero at = omega arith
owes-less (t ∷ ts) (suc i) s le (suc k) at = owes-less ts i s le k at

pub owes-set : (slaves : List Slave) (i : ℕ) (s : Slave) → OweLess (get_or slaves i nobody).cells s.cells → OwesNoMore (all_cells slaves) (all_cells (set slaves i s)) []
owes-set slaves i s le k at = let less = owes-less slaves i s le k at in omega (arith, less)

-- ---- a batch becomes live

pub count-live : (runs : List Run) (first : ℕ) (slaves : List Slave) → length (all_cells (owing_slaves runs first slaves)) ≡ length (all_cells slaves)
count-live runs first [] = refl
count-live runs first (s ∷ ss) = ap suc (count-live runs (suc first) ss)
