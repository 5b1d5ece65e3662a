-- Redo: a word gets the value from the last run that names it, and a word that no run names keeps its own. No order of writing
-- is part of it.
use Rattle.std.specs.Prelude.{◌≡◌, ◌≢◌, ℕ, suc, ◌+◌, ◌-◌, ◌<◌, ◌≤◌, ◌==◌, ◌&&◌, nat_le, List, [], ◌∷◌, length, Option, None, unwrap_or, slice_get, slice_index, if◌then◌else◌}
use Rattle.std.specs.Option.{option_or}
use Rattle.sii_words.specs.Plant.{words_of}
use Rattle.sii_words.specs.declared.run.Run.{Run}

-- the value that a run gives to a word of a slave, if it names that word
abbrev pub given_by : Run → ℕ → ℕ → Option ℕ
given_by run slave at = if run.slave == slave && nat_le run.first at then slice_get run.words (at - run.first) else None

-- the value that the last run naming a word gives to it
abbrev pub last_given : List Run → ℕ → ℕ → Option ℕ
last_given [] slave at = None
last_given (run ∷ runs) slave at = option_or (last_given runs slave at) (given_by run slave at)

-- no word is named by both runs
abbrev pub AreSeparate : Run → Run → Type 0
AreSeparate run other = (slave at : ℕ) → given_by run slave at ≢ None → given_by other slave at ≡ None

-- the words of a slave from word `at` on, with the runs redone
abbrev pub redone_words : List Run → ℕ → ℕ → List ℕ → List ℕ
redone_words runs slave at [] = []
redone_words runs slave at (word ∷ words) = unwrap_or (last_given runs slave at) word ∷ redone_words runs slave (suc at) words

-- the slaves from this number on, with the runs redone
abbrev pub redone_from : List Run → ℕ → List (List ℕ) → List (List ℕ)
redone_from runs slave [] = []
redone_from runs slave (words ∷ plant) = redone_words runs slave 0 words ∷ redone_from runs (suc slave) plant

-- the plant with the runs redone
abbrev pub redone : List (List ℕ) → List Run → List (List ℕ)
redone plant runs = redone_from runs 0 plant

-- every word that the run names is a word of the plant
pub record LiesInside (plant : List (List ℕ)) (run : Run) : Type 0 where
  pub slave : run.slave < length plant
  pub words : run.first + length run.words ≤ length (words_of plant run.slave)

-- two plants have the same number of slaves, each with the same number of words
pub record SameShape (plant other : List (List ℕ)) : Type 0 where
  pub slaves : length other ≡ length plant
  pub words : (slave : ℕ) → length (words_of other slave) ≡ length (words_of plant slave)

-- two plants of one shape agree on each word that no run names
pub record AgreeElsewhere (runs : List Run) (plant other : List (List ℕ)) : Type 0 where
  pub shape : SameShape plant other
  pub words : (slave at : ℕ) → last_given runs slave at ≡ None
      → slice_index (words_of other slave) at ≡ slice_index (words_of plant slave) at
