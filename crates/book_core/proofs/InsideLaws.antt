-- The entries of the ledger name words of the line.
use Rattle.std.proofs.Common.{◌≡◌, ℕ, zero, suc, List, [], ◌∷◌, ◌++◌, length, get_or, refl, ◌∙◌, ap, arith}
use Rattle.std.specs.List.{AllByRecursion}
use Rattle.std.proofs.lemmas.List.{length-map}
use Rattle.sii_words.specs.declared.run.Run.{Run}
use Rattle.sii_words.specs.Redo.{redone, redone_from}
use Rattle.jrn_format.specs.declared.journal.Entry.{Entry}
use Rattle.jrn_format.specs.Batch.{LiesWithin, LieWithin}
use Rattle.book_model.specs.Entries.{runs_of, sizes_of}
use Rattle.book_model.specs.Book.{Slave, nobody}
use Rattle.book_parts.specs.Line.{IsOfLine, AreOfLine}
use Rattle.book_core.specs.Stands.{cell_counts}
use Rattle.sii_words.proofs.RedoLaws.{length-redone_words}

count-at : (slaves : List Slave) (k : ℕ) → get_or (cell_counts slaves) k 0 ≡ length (get_or slaves k nobody).cells
count-at [] k = refl
count-at (s ∷ ss) zero = refl
count-at (s ∷ ss) (suc k) = count-at ss k

run-inside : (slaves : List Slave) (sizes : List ℕ) (run : Run) → cell_counts slaves ≡ sizes → LiesWithin sizes run → IsOfLine slaves run
run-inside slaves sizes run same lies = record {
  slave = omega (arith, lies.slave, ap length same, length-map slaves (λ (s : Slave). length s.cells));
  words = omega (arith, lies.words, count-at slaves run.slave, ap (λ (l : List ℕ). get_or l run.slave 0) same);
}

runs-inside : (slaves : List Slave) (sizes : List ℕ) (runs more : List Run) → cell_counts slaves ≡ sizes → AllByRecursion (LiesWithin sizes) runs → AreOfLine slaves more → AreOfLine slaves (runs ++ more)
runs-inside slaves sizes [] more same lie rest = rest
runs-inside slaves sizes (run ∷ runs) more same lie rest = (run-inside slaves sizes run same lie.0, runs-inside slaves sizes runs more same lie.1 rest)

pub entries-inside : (slaves : List Slave) (sizes : List ℕ) (entries : List Entry) → cell_counts slaves ≡ sizes → AllByRecursion (LieWithin sizes) entries → AreOfLine slaves (runs_of entries)
entries-inside slaves sizes [] same lie = tt
entries-inside slaves sizes (e ∷ es) same lie = runs-inside slaves sizes e.runs (runs_of es) same lie.0 (entries-inside slaves sizes es same lie.1)

sizes-from : (runs : List Run) (slave : ℕ) (plant : List (List ℕ)) → sizes_of (redone_from runs slave plant) ≡ sizes_of plant
sizes-from runs slave [] = refl
sizes-from runs slave (words ∷ plant) =
    ap (λ (n : ℕ). n ∷ sizes_of (redone_from runs (suc slave) plant)) (length-redone_words runs slave 0 words) ∙ ap (λ (l : List ℕ). length words ∷ l) (sizes-from runs (suc slave) plant)

pub sizes-redone : (plant : List (List ℕ)) (runs : List Run) → sizes_of (redone plant runs) ≡ sizes_of plant
sizes-redone plant runs = sizes-from runs 0 plant
