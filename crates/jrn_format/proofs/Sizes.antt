-- How many bytes a command takes.
use Rattle.std.proofs.Common.{◌≡◌, ℕ, ◌+◌, ◌*◌, List, [], ◌∷◌, length, refl, arith}
use Rattle.std.specs.List.{flat_map, sum_by}
use Rattle.std.specs.Int.{w16, to_le_bytes}
use Rattle.std.proofs.lemmas.List.{length-append}
use Rattle.std.proofs.lemmas.List.Sums.{sum_by-cons}
use Rattle.sii_words.specs.declared.run.Run.{Run}
use Rattle.jrn_format.specs.Batch.{spelt_run, spelt_entry, entry_size}

length-words : (words : List ℕ) → length (flat_map (to_le_bytes w16) words) ≡ 2 * length words
length-words [] = refl
length-words (word ∷ words) = omega (arith, length-words words)

length-runs : (runs : List Run) → length (flat_map spelt_run runs) ≡ sum_by (λ run. 6 + 2 * length run.words) runs
length-runs [] = refl
length-runs (run ∷ runs) =
    omega (arith, length-append (spelt_run run) (flat_map spelt_run runs), length-words run.words, length-runs runs, sum_by-cons (λ (r : Run). 6 + 2 * length r.words) run runs)

pub length-entry : (number : ℕ) (runs : List Run) → length (spelt_entry (record { number = number; runs = runs })) ≡ entry_size runs
length-entry number runs = omega (arith, length-runs runs)
