-- What the book knows of each word: its value, and which of its namings aren't settled.
use Rattle.std.specs.Prelude.{ℕ, ◌+◌, ◌==◌, Bool, true, false, List, [], ◌∷◌, ◌++◌, slice_index_or, if◌then◌else◌}

-- The value that a word is known to hold, or the number of issues since it was known.
pub data Known : Type 0 where
  Holds : (value : ℕ) → Known
  Unsure : (issues : ℕ) → Known

-- What is known of a word, and the values that it is owed.
pub record Cell : Type 0 where
  pub known : Known
  -- the values of the word's last namings in live batches that aren't settled, the oldest first
  pub owed : List ℕ

-- The list is not empty.
abbrev pub is_any : {A : Type 0} → List A → Bool
is_any [] = false
is_any (x ∷ xs) = true

-- The word is known to hold this value.
abbrev pub is_held : Known → ℕ → Bool
is_held (Holds held) value = held == value
is_held (Unsure issues) value = false

-- What is owed after one more naming: nothing if the word is known to hold the value, since that settles all its namings.
abbrev pub named : Known → List ℕ → ℕ → List ℕ
named known owed value = if is_held known value then [] else owed ++ value ∷ []

-- What is owed after these namings, in order.
abbrev pub all_named : Known → List ℕ → List ℕ → List ℕ
all_named known owed [] = owed
all_named known owed (value ∷ values) = all_named known (named known owed value) values

-- THE STEPS OF A CELL

-- A word that was read, with nothing live.
abbrev pub opened : ℕ → Cell
opened word = record { known = Holds word; owed = [] }

-- A batch that gives these values to the word becomes live.
abbrev pub owing : Cell → List ℕ → Cell
owing cell values = record cell { owed = all_named cell.known cell.owed values }

-- The number of issues since the value was known.
abbrev pub since : Known → ℕ
since (Holds value) = 0
since (Unsure issues) = issues

-- The number of issues after one more.
abbrev pub next_issue : Known → ℕ
next_issue (Holds value) = 1
next_issue (Unsure issues) = 1 + issues

-- The word is issued: its value is unknown until it is written.
abbrev pub asked : Cell → Cell
asked cell = record cell { known = Unsure (next_issue cell.known) }

-- The word is known to hold the value, which settles its namings up to the last one with this value.
abbrev pub written : Cell → ℕ → Cell
written cell value = record { known = Holds value; owed = all_named (Holds value) [] cell.owed }

-- THE CELLS OF A SLAVE

-- The default for a word that the slave doesn't have.
abbrev pub nothing : Cell
nothing = record { known = Holds 0; owed = [] }

-- The cell of word `at`.
abbrev pub cell_of : List Cell → ℕ → Cell
cell_of cells at = slice_index_or cells at nothing
