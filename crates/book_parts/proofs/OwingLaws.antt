-- Which writes are pending once a batch is live, and what stays.
use Rattle.std.proofs.Common.{◌≡◌, ℕ, zero, suc, ◌+◌, ◌<◌, List, [], ◌∷◌, ◌++◌, length, get_or, map, refl, sym, ◌∙◌, ap, arith, add-zero, add-suc, suc-add}
use Rattle.std.proofs.lemmas.List.{length-map}
use Rattle.sii_words.specs.declared.run.Run.{Run}
use Rattle.book_model.specs.Cells.{Cell, cell_of, nothing, owing}
use Rattle.book_model.specs.Pending.{values_of}
use Rattle.book_model.proofs.EndLaws.{values-append}
use Rattle.book_model.specs.Entries.{namings, values}
use Rattle.book_model.specs.Book.{Slave, nobody}
use Rattle.book_model.specs.Open.{owing_words, owing_slaves}
use Rattle.book_parts.specs.Line.{IsOfLine, AreOfLine}
use Rattle.book_parts.proofs.EntryLaws.{namings-append, owing-append}

-- THE CELLS OF A SLAVE

pub length-owing_words : (runs : List Run) (i at : ℕ) (cells : List Cell) → length (owing_words runs i at cells) ≡ length cells
length-owing_words runs i at [] = refl
length-owing_words runs i at (c ∷ cs) = ap suc (length-owing_words runs i (suc at) cs)

pub cell-owing : (runs : List Run) (i at : ℕ) (cells : List Cell) (k : ℕ) → k < length cells → get_or (owing_words runs i at cells) k nothing ≡ owing (get_or cells k nothing) (values runs i (at + k))
cell-owing runs i at [] k within = absurd (omega arith)
cell-owing runs i at (c ∷ cs) zero within = rw add-zero refl
cell-owing runs i at (c ∷ cs) (suc k) within = rw (add-suc at k, ← suc-add at k) (cell-owing runs i (suc at) cs k (omega arith))

-- THE SLAVES

pub length-owing_slaves : (runs : List Run) (i : ℕ) (slaves : List Slave) → length (owing_slaves runs i slaves) ≡ length slaves
length-owing_slaves runs i [] = refl
length-owing_slaves runs i (s ∷ ss) = ap suc (length-owing_slaves runs (suc i) ss)

abbrev pub owed-slave : List Run → ℕ → Slave → Slave
owed-slave runs i s = record s { cells = owing_words runs i 0 s.cells }

pub slave-owing : (runs : List Run) (i : ℕ) (slaves : List Slave) (k : ℕ) → k < length slaves → get_or (owing_slaves runs i slaves) k nobody ≡ owed-slave runs (i + k) (get_or slaves k nobody)
slave-owing runs i [] k within = absurd (omega arith)
slave-owing runs i (s ∷ ss) zero within = rw add-zero refl
slave-owing runs i (s ∷ ss) (suc k) within = rw (add-suc i k, ← suc-add i k) (slave-owing runs (suc i) ss k (omega arith))

-- ONE BATCH AFTER THE OTHER

values-of-both : (xs ys : List Run) (i k : ℕ) → values (xs ++ ys) i k ≡ values xs i k ++ values ys i k
values-of-both xs ys i k = ap (values_of k) (namings-append xs ys i) ∙ values-append k (namings xs i) (namings ys i)

owing_words-append : (xs ys : List Run) (i at : ℕ) (cells : List Cell) → owing_words (xs ++ ys) i at cells ≡ owing_words ys i at (owing_words xs i at cells)
owing_words-append xs ys i at [] = refl
owing_words-append xs ys i at (c ∷ cs) =
    ap (λ (n : Cell). n ∷ owing_words (xs ++ ys) i (suc at) cs) (ap (owing c) (values-of-both xs ys i at) ∙ owing-append c (values xs i at) (values ys i at))
    ∙ ap (λ (l : List Cell). owing (owing c (values xs i at)) (values ys i at) ∷ l) (owing_words-append xs ys i (suc at) cs)

pub owing_slaves-append : (xs ys : List Run) (i : ℕ) (slaves : List Slave) → owing_slaves (xs ++ ys) i slaves ≡ owing_slaves ys i (owing_slaves xs i slaves)
owing_slaves-append xs ys i [] = refl
owing_slaves-append xs ys i (s ∷ ss) =
    ap (λ (l : List Cell). let t : Slave = record s { cells = l } in t ∷ owing_slaves (xs ++ ys) (suc i) ss) (owing_words-append xs ys i 0 s.cells)
    ∙ ap (λ (l : List Slave). owed-slave ys i (owed-slave xs i s) ∷ l) (owing_slaves-append xs ys (suc i) ss)

-- WHAT STAYS

-- A batch that goes live changes what is owed, and no more.
pub record SameButOwed (old new : Slave) : Type 0 where
  pub words : length new.cells ≡ length old.cells
  pub operation : new.operation ≡ old.operation
  pub issues : new.issues ≡ old.issues
  pub known : (at : ℕ) → (cell_of new.cells at).known ≡ (cell_of old.cells at).known

known-owing : (runs : List Run) (i at : ℕ) (cells : List Cell) (k : ℕ) → (cell_of (owing_words runs i at cells) k).known ≡ (cell_of cells k).known
known-owing runs i at [] k = refl
known-owing runs i at (c ∷ cs) zero = refl
known-owing runs i at (c ∷ cs) (suc k) = known-owing runs i (suc at) cs k

pub owing-keeps : (runs : List Run) (i : ℕ) (slaves : List Slave) (k : ℕ) → SameButOwed (get_or slaves k nobody) (get_or (owing_slaves runs i slaves) k nobody)
owing-keeps runs i [] k = record { words = refl; operation = refl; issues = refl; known = λ at. refl }
owing-keeps runs i (s ∷ ss) zero = record { words = length-owing_words runs i 0 s.cells; operation = refl; issues = refl; known = known-owing runs i 0 s.cells }
owing-keeps runs i (s ∷ ss) (suc k) = owing-keeps runs (suc i) ss k

-- how many words each slave has
abbrev pub sizes : List Slave → List ℕ
sizes slaves = map (λ (s : Slave). length s.cells) slaves

pub sizes-owing : (runs : List Run) (i : ℕ) (slaves : List Slave) → sizes (owing_slaves runs i slaves) ≡ sizes slaves
sizes-owing runs i [] = refl
sizes-owing runs i (s ∷ ss) =
    ap (λ (n : ℕ). n ∷ sizes (owing_slaves runs (suc i) ss)) (length-owing_words runs i 0 s.cells) ∙ ap (λ (l : List ℕ). length s.cells ∷ l) (sizes-owing runs (suc i) ss)

size-at : (slaves : List Slave) (k : ℕ) → get_or (sizes slaves) k 0 ≡ length (get_or slaves k nobody).cells
size-at [] k = refl
size-at (s ∷ ss) zero = refl
size-at (s ∷ ss) (suc k) = size-at ss k

-- runs are of the line as long as its slaves have as many words
pub of-line-stays : (slaves later : List Slave) (runs : List Run) → sizes later ≡ sizes slaves → AreOfLine slaves runs → AreOfLine later runs
of-line-stays slaves later [] same are = tt
of-line-stays slaves later (run ∷ runs) same are =
    let count : length later ≡ length slaves = sym (length-map later (λ (s : Slave). length s.cells)) ∙ ap length same ∙ length-map slaves (λ (s : Slave). length s.cells) in
    let words : length (get_or later run.slave nobody).cells ≡ length (get_or slaves run.slave nobody).cells = sym (size-at later run.slave) ∙ ap (λ (l : List ℕ). get_or l run.slave 0) same ∙ size-at slaves run.slave in
    let here : IsOfLine later run = record { slave = omega (arith, are.0.slave); words = omega (arith, are.0.words) } in
    (here, of-line-stays slaves later runs same are.1)
