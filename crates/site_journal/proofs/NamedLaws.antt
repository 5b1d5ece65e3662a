-- How many words runs name, for one slave of many and in all.
use Rattle.std.proofs.Common.{◌≡◌, ℕ, suc, ◌+◌, ◌<◌, ◌≤◌, Bool, true, false, List, [], ◌∷◌, length, refl, ap, arith, length-append}
use Rattle.std.specs.Prelude.{◌==◌}
use Rattle.std.specs.List.{sum_by}
use Rattle.std.proofs.lemmas.Bool.Decides.{nat_tests}
use Rattle.std.proofs.lemmas.List.Sums.{sum_by-cons}
use Rattle.sii_words.specs.declared.run.Run.{Run}
use Rattle.book_model.specs.Book.{Slave}
use Rattle.book_model.specs.Entries.{named_from, named_by, namings}

abbrev pub words_of_runs : List Run → ℕ
words_of_runs runs = sum_by (λ (run : Run). length run.words) runs

-- how many words are named of these slaves, counted from `first` on
abbrev pub named_among : List Run → (first : ℕ) → List Slave → ℕ
named_among runs first [] = 0
named_among runs first (slave ∷ slaves) = length (namings runs first) + named_among runs (suc first) slaves

length-named_from : (at : ℕ) (words : List ℕ) → length (named_from at words) ≡ length words
length-named_from at [] = refl
length-named_from at (w ∷ words) = ap suc (length-named_from (suc at) words)

-- one run among these slaves
abbrev by_one : Run → (first : ℕ) → List Slave → ℕ
by_one run first [] = 0
by_one run first (slave ∷ slaves) = length (named_by first run) + by_one run (suc first) slaves

by-past : (run : Run) (first : ℕ) (slaves : List Slave) → run.slave < first → by_one run first slaves ≡ 0
by-past run first [] past = refl
by-past run first (s ∷ slaves) past =
    let no : (run.slave == first) ≡ false = grind (arith, nat_tests) in
    rw no (omega (arith, by-past run (suc first) slaves (omega arith)))

by-few : (run : Run) (first : ℕ) (slaves : List Slave) → by_one run first slaves ≤ length run.words
by-few run first [] = omega arith
by-few run first (s ∷ slaves) = one (run.slave == first) refl (by-few run (suc first) slaves)
  where
    one : (c : Bool) → (run.slave == first) ≡ c → by_one run (suc first) slaves ≤ length run.words → by_one run first (s ∷ slaves) ≤ length run.words
    one true is few =
        let same : run.slave ≡ first = grind (arith, nat_tests) in
        rw is (omega (arith, length-named_from run.first run.words, by-past run (suc first) slaves (omega arith)))
    one false is few = rw is (omega (arith, few))

among-none : (first : ℕ) (slaves : List Slave) → named_among [] first slaves ≡ 0
among-none first [] = refl
among-none first (s ∷ slaves) = omega (arith, among-none (suc first) slaves)

among-cons : (run : Run) (runs : List Run) (first : ℕ) (slaves : List Slave) → named_among (run ∷ runs) first slaves ≡ by_one run first slaves + named_among runs first slaves
among-cons run runs first [] = refl
among-cons run runs first (s ∷ slaves) = omega (arith, length-append (named_by first run) (namings runs first), among-cons run runs (suc first) slaves)

pub named-few : (runs : List Run) (first : ℕ) (slaves : List Slave) → named_among runs first slaves ≤ words_of_runs runs
named-few [] first slaves = omega (arith, among-none first slaves)
named-few (run ∷ runs) first slaves = omega (arith, among-cons run runs first slaves, by-few run first slaves, named-few runs first slaves, sum_by-cons (λ (r : Run). length r.words) run runs)
