-- Runs of batches that are within a line lie inside its plants, as redo requires.
use Rattle.std.proofs.Common.{ℕ, List, [], ◌∷◌, ◌++◌, length, map}
use Rattle.std.specs.Prelude.{All}
use Rattle.std.specs.List.{flat_map, AllByRecursion}
use Rattle.std.proofs.lemmas.List.Elements.{All-cons, All-nil, All-append}
use Rattle.sii_words.specs.Redo.{LiesInside}
use Rattle.sii_words.specs.declared.run.Run.{Run}
use Rattle.jrn_format.specs.declared.journal.Entry.{Entry}
use Rattle.jrn_format.specs.declared.journal.Batch.{Batch}
use Rattle.jrn_format.specs.Batch.{LiesWithin, LieWithin, IsWithin}
use Rattle.jrn_format.proofs.Within.{inside_plant}

runs-inside : (plant : List (List ℕ)) (runs : List Run) → AllByRecursion (LiesWithin (map (λ (words : List ℕ). length words) plant)) runs → All (LiesInside plant) runs
runs-inside plant [] within = All-nil (LiesInside plant)
runs-inside plant (run ∷ runs) within = All-cons (LiesInside plant) run runs (inside_plant plant run within.0) (runs-inside plant runs within.1)

pub entries-inside : (plant : List (List ℕ)) (entries : List Entry) → AllByRecursion (LieWithin (map (λ (words : List ℕ). length words) plant)) entries
    → All (LiesInside plant) (flat_map (λ (entry : Entry). entry.runs) entries)
entries-inside plant [] within = All-nil (LiesInside plant)
entries-inside plant (entry ∷ entries) within =
    All-append (LiesInside plant) entry.runs (flat_map (λ (e : Entry). e.runs) entries) (runs-inside plant entry.runs within.0) (entries-inside plant entries within.1)

join : (P : Entry → Type 0) (xs ys : List Entry) → AllByRecursion P xs → AllByRecursion P ys → AllByRecursion P (xs ++ ys)
join P [] ys one two = two
join P (x ∷ xs) ys one two = (one.0, join P xs ys one.1 two)

all_entries : (sizes : List ℕ) (batches : List Batch) → AllByRecursion (IsWithin sizes) batches → AllByRecursion (LieWithin sizes) (flat_map (λ (batch : Batch). batch.entries) batches)
all_entries sizes [] within = tt
all_entries sizes (batch ∷ batches) within =
    join (LieWithin sizes) batch.entries (flat_map (λ (b : Batch). b.entries) batches) within.0 (all_entries sizes batches within.1)

pub batches-inside : (plant : List (List ℕ)) (batches : List Batch) → AllByRecursion (IsWithin (map (λ (words : List ℕ). length words) plant)) batches
    → All (LiesInside plant) (flat_map (λ (entry : Entry). entry.runs) (flat_map (λ (batch : Batch). batch.entries) batches))
batches-inside plant batches within =
    entries-inside plant (flat_map (λ (batch : Batch). batch.entries) batches) (all_entries (map (λ (words : List ℕ). length words) plant) batches within)
