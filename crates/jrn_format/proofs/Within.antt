-- Runs inside the line: the test says what the definition says.
use Rattle.std.proofs.Common.{◌≡◌, ℕ, ◌+◌, ◌<◌, ◌≤◌, Bool, true, false, ltb, leb, List, [], ◌∷◌, length, map, slice_index, refl, subst, arith}
use Rattle.std.specs.List.{list_all, AllByRecursion}
use Rattle.std.proofs.lemmas.Bool.{ltb-true, lt-ltb, leb-true, le-leb, and_parts, and_from, both_ways}
use Rattle.std.proofs.lemmas.List.{length-map, get_or-map}
use Rattle.sii_words.specs.declared.run.Run.{Run}
use Rattle.sii_words.specs.Redo.{LiesInside}
use Rattle.jrn_format.specs.declared.journal.Batch.{Batch}
use Rattle.jrn_format.specs.Batch.{LiesWithin, LieWithin, IsWithin}
use Rattle.jrn_format.specs.steps.Reading.{run_is_within, entry_is_within, batch_is_within}

-- The test is true exactly where the fact holds.
pub record Tests {X : Type 0} (p : X → Bool) (P : X → Type 0) : Type 0 where
  pub sound : (x : X) → p x ≡ true → P x
  pub complete : (x : X) → P x → p x ≡ true

pub all_sound : {X : Type 0} (p : X → Bool) (P : X → Type 0) → Tests p P → (xs : List X) → list_all p xs ≡ true → AllByRecursion P xs
all_sound p P t [] e = tt
all_sound p P t (x ∷ xs) e = let parts = and_parts (p x) (list_all p xs) e in (t.sound x parts.0, all_sound p P t xs parts.1)

pub all_complete : {X : Type 0} (p : X → Bool) (P : X → Type 0) → Tests p P → (xs : List X) → AllByRecursion P xs → list_all p xs ≡ true
all_complete p P t [] h = refl
all_complete p P t (x ∷ xs) h = and_from (p x) (list_all p xs) (t.complete x h.0) (all_complete p P t xs h.1)

pub Tests-all : {X : Type 0} (p : X → Bool) (P : X → Type 0) → Tests p P → Tests (list_all p) (AllByRecursion P)
Tests-all p P t = record { sound = all_sound p P t; complete = all_complete p P t }

run_tests : (sizes : List ℕ) → Tests (run_is_within sizes) (LiesWithin sizes)
run_tests sizes = record {
  sound = λ run e. let parts = and_parts (ltb run.slave (length sizes)) (leb (run.first + length run.words) (slice_index sizes run.slave)) e in
      record { slave = ltb-true _ _ parts.0; words = leb-true _ _ parts.1 };
  complete = λ run h. and_from (ltb run.slave (length sizes)) (leb (run.first + length run.words) (slice_index sizes run.slave)) (lt-ltb _ _ h.slave) (le-leb _ _ h.words);
}

entry_tests : (sizes : List ℕ) → Tests (entry_is_within sizes) (LieWithin sizes)
entry_tests sizes =
    let runs = Tests-all (run_is_within sizes) (LiesWithin sizes) (run_tests sizes) in
    record { sound = λ entry e. runs.sound entry.runs e; complete = λ entry h. runs.complete entry.runs h }

pub batch_tests : (sizes : List ℕ) → Tests (batch_is_within sizes) (IsWithin sizes)
batch_tests sizes =
    let entries = Tests-all (entry_is_within sizes) (LieWithin sizes) (entry_tests sizes) in
    record { sound = λ batch e. entries.sound batch.entries e; complete = λ batch h. entries.complete batch.entries h }

pub not_within : (sizes : List ℕ) (batch : Batch) → batch_is_within sizes batch ≡ false → IsWithin sizes batch → ⊥
not_within sizes batch e h = both_ways (batch_is_within sizes batch) e ((batch_tests sizes).complete batch h)

-- a run inside a line lies inside each plant of that line
pub inside_plant : (plant : List (List ℕ)) (run : Run) → LiesWithin (map (λ (words : List ℕ). length words) plant) run → LiesInside plant run
inside_plant plant run h =
    let here : run.slave < length plant = omega (arith, h.slave, length-map plant (λ (words : List ℕ). length words)) in
    record { slave = here; words = subst (λ (size : ℕ). run.first + length run.words ≤ size) (get_or-map (λ (words : List ℕ). length words) plant run.slave [] 0 here) h.words }
