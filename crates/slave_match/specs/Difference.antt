-- In which words two lists of words differ. A word that only one of them has differs too.
use Rattle.std.specs.Prelude.{ℕ, zero, suc, ◌+◌, ◌==◌, Bool, true, false, if◌then◌else◌, List, length, max, Option, Some, None, slice_get}
use Rattle.slave_match.specs.declared.comparing.Difference.{Difference}

-- both have the word with one value, or neither has it
abbrev pub is_same : Option ℕ → Option ℕ → Bool
is_same (Some has) (Some kept) = has == kept
is_same None None = true
is_same has kept = false

-- one word more differs, before those after it
abbrev pub counted : ℕ → Option ℕ → Option ℕ → Option Difference → Difference
counted at has kept (Some after) = record { count = after.count + 1; first = at; has = has; kept = kept }
counted at has kept None = record { count = 1; first = at; has = has; kept = kept }

-- the difference in one word, if there is one, and those in the words after it
abbrev pub next_difference : ℕ → Option ℕ → Option ℕ → Option Difference → Option Difference
next_difference at has kept after = if is_same has kept then after else Some (counted at has kept after)

-- the differences in so many words from word `at` on: how many they are, and the first one
abbrev pub difference_from : (count at : ℕ) → List ℕ → List ℕ → Option Difference
difference_from zero at words kept = None
difference_from (suc count) at words kept =
    next_difference at (slice_get words at) (slice_get kept at) (difference_from count (suc at) words kept)

abbrev pub difference_of : List ℕ → List ℕ → Option Difference
difference_of words kept = difference_from (max (length words) (length kept)) 0 words kept
