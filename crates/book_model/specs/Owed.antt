-- The values that a word is owed lead to its value in the contents, whatever the word may hold.
use Rattle.std.specs.Prelude.{◌≡◌, ◌⊎◌, ℕ, ◌≤◌, List, [], ◌∷◌, length, unwrap_or}
use Rattle.sii_words.specs.declared.run.Run.{Run}
use Rattle.sii_words.specs.Redo.{last_given}
use Rattle.book_model.specs.Cells.{Known, Holds, Unsure, Cell}
use Rattle.book_model.specs.Entries.{values}

-- What the word may hold: the known value, or anything after an issue.
abbrev pub MayBe : Known → ℕ → Type 0
MayBe (Holds value) word = word ≡ value
MayBe (Unsure issues) word = Unit {0}

-- The word was issued since its value was known.
abbrev pub IsUnsure : Known → Type 0
IsUnsure known = (issues : ℕ) × (known ≡ Unsure issues)

-- The last of the values, or the word's own if there are none.
abbrev pub due : ℕ → List ℕ → ℕ
due word [] = word
due word (value ∷ values) = due value values

-- The value is in the list.
abbrev pub IsAmong : ℕ → List ℕ → Type 0
IsAmong value [] = ⊥
IsAmong value (v ∷ vs) = (v ≡ value) ⊎ IsAmong value vs

-- The word after redo of these runs.
abbrev pub redone_word : List Run → ℕ → ℕ → ℕ → ℕ
redone_word runs slave at word = unwrap_or (last_given runs slave at) word

-- Whatever the word may hold, the values that it is owed lead to `target`; and only values of live namings are owed.
pub record CellFits (live : List Run) (slave at : ℕ) (target : ℕ) (cell : Cell) : Type 0 where
  pub leads : (word : ℕ) → MayBe cell.known word → due word cell.owed ≡ target
  pub owed : length cell.owed ≤ length (values live slave at)
