-- Conditions on the cells of all words of a line.
use Rattle.std.specs.Prelude.{ℕ, ◌<◌, ◌≤◌, List, ◌++◌, length, slice_index_or}
use Rattle.sii_words.specs.Plant.{words_of}
use Rattle.sii_words.specs.declared.run.Run.{Run}
use Rattle.sii_words.specs.Redo.{SameShape}
use Rattle.book_model.specs.Cells.{Cell}
use Rattle.book_model.specs.Entries.{values}
use Rattle.book_model.specs.Book.{cell_at}
use Rattle.book_model.specs.Owed.{MayBe, CellFits, redone_word}

-- Word `at` of a slave.
abbrev pub word_at : List (List ℕ) → ℕ → ℕ → ℕ
word_at plant slave at = slice_index_or (words_of plant slave) at 0

-- P holds of each word of the plant.
abbrev pub EachWord : List (List ℕ) → (ℕ → ℕ → Type 0) → Type 0
EachWord plant P = (slave at : ℕ) → slave < length plant → at < length (words_of plant slave) → P slave at

-- The words that the slaves may hold, by what the book knows of them.
pub record MayHoldAll (plant : List (List ℕ)) (cells : List (List Cell)) (left : List (List ℕ)) : Type 0 where
  pub shape : SameShape plant left
  pub words : EachWord plant (λ slave at. MayBe (cell_at cells slave at).known (word_at left slave at))

-- Each cell fits, where the contents are those after redo of the retired and the live runs.
abbrev pub AllFit : List (List ℕ) → (retired live : List Run) → List (List Cell) → Type 0
AllFit plant retired live cells =
    EachWord plant (λ slave at. CellFits live slave at (redone_word (retired ++ live) slave at (word_at plant slave at)) (cell_at cells slave at))

-- Each word is owed at most as many values as these runs name it: all earlier runs are settled.
abbrev pub AllSettled : List (List ℕ) → List Run → List (List Cell) → Type 0
AllSettled plant after cells = EachWord plant (λ slave at. length (cell_at cells slave at).owed ≤ length (values after slave at))
