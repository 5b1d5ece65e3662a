-- The entry of an accepted command can be encoded, and is within the line.
use Rattle.std.proofs.Common.{◌≡◌, ℕ, suc, ◌+◌, ◌^◌, ◌<◌, ◌≤◌, Bool, true, false, List, [], ◌∷◌, length, refl, sym, subst, arith}
use Rattle.std.specs.Prelude.{All, ◌==◌}
use Rattle.std.specs.List.{AllByRecursion}
use Rattle.std.proofs.lemmas.List.{length-map, get_or-map}
use Rattle.std.proofs.lemmas.List.Elements.{All-nil, All-cons, All-head, All-tail, All-append, recursion_from_All}
use Rattle.sii_words.specs.declared.run.Run.{Run}
use Rattle.sii_words.specs.Run.{with_first, stretches, runs_from, runs_between}
use Rattle.sii_words.specs.Redo.{LiesInside, SameShape}
use Rattle.sii_words.proofs.RunLaws.{LiesInside-runs_between, some-runs_between}
use Rattle.sii_edit.specs.Fitting.{IsWord, WordsFit, PlantFits}
use Rattle.sii_edit.proofs.PlantLaws.{words-fit}
use Rattle.jrn_format.specs.Batch.{RunFits, EntryFits, LiesWithin, LieWithin}
use Rattle.book_model.specs.Entries.{sizes_of}

-- ---- the words that runs give

abbrev GivesWords : Run → Type 0
GivesWords run = All IsWord run.words

first-gives : (slave at word : ℕ) (runs : List Run) → IsWord word → All GivesWords runs → All GivesWords (with_first slave at word runs)
first-gives slave at word [] small all = All-cons GivesWords (record { slave = slave; first = at; words = word ∷ [] }) [] (All-cons IsWord word [] small (All-nil IsWord)) all
first-gives slave at word (run ∷ runs) small all = one (run.first == suc at) refl
  where
    one : (c : Bool) → (run.first == suc at) ≡ c → All GivesWords (with_first slave at word (run ∷ runs))
    one true is =
        rw is (All-cons GivesWords (record { slave = slave; first = at; words = word ∷ run.words }) runs (All-cons IsWord word run.words small (All-head GivesWords run runs all)) (All-tail GivesWords run runs all))
    one false is = rw is (All-cons GivesWords (record { slave = slave; first = at; words = word ∷ [] }) (run ∷ runs) (All-cons IsWord word [] small (All-nil IsWord)) all)

stretches-give : (slave at : ℕ) (olds news : List ℕ) → All IsWord news → All GivesWords (stretches slave at olds news)
stretches-give slave at [] news all = All-nil GivesWords
stretches-give slave at (old ∷ olds) [] all = All-nil GivesWords
stretches-give slave at (old ∷ olds) (new ∷ news) all = one (stretches-give slave (suc at) olds news (All-tail IsWord new news all)) (old == new) refl
  where
    one : All GivesWords (stretches slave (suc at) olds news) → (c : Bool) → (old == new) ≡ c → All GivesWords (stretches slave at (old ∷ olds) (new ∷ news))
    one others true is = rw is others
    one others false is = rw is (first-gives slave at new (stretches slave (suc at) olds news) (All-head IsWord new news all) others)

runs-give : (slave : ℕ) (old new : List (List ℕ)) → PlantFits new → All GivesWords (runs_from slave old new)
runs-give slave [] new fits = All-nil GivesWords
runs-give slave (o ∷ old) [] fits = All-nil GivesWords
runs-give slave (o ∷ old) (n ∷ new) fits =
    let first = All-head WordsFit n new fits in
    All-append GivesWords (stretches slave 0 o n) (runs_from (suc slave) old new) (stretches-give slave 0 o n first.each) (runs-give (suc slave) old new (All-tail WordsFit n new fits))

-- ---- their fields

runs-fit : (old new : List (List ℕ)) (runs : List Run) → SameShape old new → length old < 2 ^ 16 → PlantFits new → All (LiesInside old) runs → All (λ (run : Run). 0 < length run.words) runs → All GivesWords runs
    → AllByRecursion RunFits runs
runs-fit old new [] same few fits inside some give = tt
runs-fit old new (run ∷ runs) same few fits inside some give =
    let here = All-head (LiesInside old) run runs inside in
    let slave = here.slave in
    let words = here.words in
    let size = same.words run.slave in
    let there = words-fit new run.slave fits in
    let most = there.count in
    let any = All-head (λ (r : Run). 0 < length r.words) run runs some in (
      record { slave = omega (arith, slave, few); first = omega (arith, words, size, most, any); some = omega (arith, any); count = omega (arith, words, size, most); words = recursion_from_All IsWord run.words (All-head GivesWords run runs give) },
      runs-fit old new runs same few fits (All-tail (LiesInside old) run runs inside) (All-tail (λ (r : Run). 0 < length r.words) run runs some) (All-tail GivesWords run runs give),
    )

runs-within : (plant : List (List ℕ)) (runs : List Run) → All (LiesInside plant) runs → AllByRecursion (LiesWithin (sizes_of plant)) runs
runs-within plant [] inside = tt
runs-within plant (run ∷ runs) inside =
    let here = All-head (LiesInside plant) run runs inside in
    let there : run.slave < length plant = here.slave in (
      record {
        slave = omega (arith, there, length-map plant (λ (words : List ℕ). length words));
        words = subst (λ (size : ℕ). run.first + length run.words ≤ size) (sym (get_or-map (λ (words : List ℕ). length words) plant run.slave [] 0 there)) here.words;
      },
      runs-within plant runs (All-tail (LiesInside plant) run runs inside),
    )

-- ---- the entry

pub entry-fits : (old new : List (List ℕ)) (number : ℕ) → SameShape old new → length old < 2 ^ 16 → PlantFits new → number < 2 ^ 64 → length (runs_between old new) < 2 ^ 16
    → EntryFits (record { number = number; runs = runs_between old new })
entry-fits old new number same few fits small count = record {
  number = small;
  count = count;
  runs = runs-fit old new (runs_between old new) same few fits (LiesInside-runs_between old new) (some-runs_between old new) (runs-give 0 old new fits);
}

pub entry-within : (old new : List (List ℕ)) (number : ℕ) → LieWithin (sizes_of old) (record { number = number; runs = runs_between old new })
entry-within old new number = runs-within old (runs_between old new) (LiesInside-runs_between old new)
