-- Runs: neighbouring words of one slave with their new values.
use Rattle.std.specs.Prelude.{◌≡◌, ◌⊎◌, ℕ, Option, Some, None, suc, ◌+◌, ◌<◌, ◌==◌, ◌++◌, List, [], ◌∷◌, length, if◌then◌else◌}
use Rattle.sii_words.specs.declared.run.Run.{Run}

-- one more changed word in front of runs: it joins the first run if that begins right after it, else it is a run by itself
abbrev pub with_first : ℕ → ℕ → ℕ → List Run → List Run
with_first slave at word [] = record { slave = slave; first = at; words = word ∷ [] } ∷ []
with_first slave at word (run ∷ runs) =
    if run.first == suc at
    then record { slave = slave; first = at; words = word ∷ run.words } ∷ runs
    else record { slave = slave; first = at; words = word ∷ [] } ∷ run ∷ runs

-- the longest stretches in which the words of a slave differ, from word `at` on, in rising order
abbrev pub stretches : ℕ → ℕ → List ℕ → List ℕ → List Run
stretches slave at [] new = []
stretches slave at (old ∷ olds) [] = []
stretches slave at (old ∷ olds) (new ∷ news) =
    if old == new then stretches slave (suc at) olds news else with_first slave at new (stretches slave (suc at) olds news)

-- the stretches of all slaves from this number on, in rising order
abbrev pub runs_from : ℕ → List (List ℕ) → List (List ℕ) → List Run
runs_from slave [] new = []
runs_from slave (old ∷ olds) [] = []
runs_from slave (old ∷ olds) (new ∷ news) = stretches slave 0 old new ++ runs_from (suc slave) olds news

-- the runs that lead from one plant to another: the longest stretches in which they differ
abbrev pub runs_between : List (List ℕ) → List (List ℕ) → List Run
runs_between old new = runs_from 0 old new

-- a run comes before another: it is of an earlier slave, or of the same slave with at least one word between them
abbrev pub StandsBefore : Run → Run → Type 0
StandsBefore run other = (run.slave < other.slave) ⊎ ((run.slave ≡ other.slave) × (run.first + length run.words < other.first))

-- the new value of a word, if it differs from the old one
abbrev pub change : ℕ → ℕ → Option ℕ
change old new = if old == new then None else Some new
