-- How the book's cells and live batches lead to the contents.
use Rattle.std.specs.Prelude.{◌≡◌, ℕ, suc, ◌+◌, ◌≤◌, List, [], ◌∷◌, ◌++◌, length, take, slice_set, slice_index_or}
use Rattle.sii_words.specs.declared.run.Run.{Run}
use Rattle.sii_words.specs.Redo.{redone}
use Rattle.jrn_format.specs.declared.journal.Entry.{Entry}
use Rattle.jrn_format.specs.Halves.{Halves, live}
use Rattle.book_model.specs.Cells.{Cell}
use Rattle.book_model.specs.Entries.{runs_of, live_runs, values}
use Rattle.book_model.specs.Book.{Book, base_of, own, all_cells, cell_at}
use Rattle.book_model.specs.Open.{owing_words}
use Rattle.book_model.specs.Plants.{AllFit}

-- The contents after redo of the first `count` entries.
abbrev pub after_entries : List (List ℕ) → List Entry → ℕ → List (List ℕ)
after_entries base entries count = redone base (runs_of (take count entries))

-- The cells after a batch with these runs has become live, from number `slave` on.
abbrev pub owing_from : List Run → ℕ → List (List Cell) → List (List Cell)
owing_from runs slave [] = []
owing_from runs slave (cells ∷ others) = owing_words runs slave 0 cells ∷ owing_from runs (suc slave) others

-- The cells of all slaves after a batch with these runs has become live.
abbrev pub owing_all : List Run → List (List Cell) → List (List Cell)
owing_all runs cells = owing_from runs 0 cells

-- The cells with that of word `at` of a slave replaced.
abbrev pub with_cell : List (List Cell) → ℕ → ℕ → Cell → List (List Cell)
with_cell cells slave at cell = slice_set cells slave (slice_set (slice_index_or cells slave []) at cell)

-- The live runs are the last of all runs since the open. Redo of the retired runs, `gone`, and then of the live ones gives the contents
-- after the durable commands; and each cell fits that.
pub record Fits (plant base : List (List ℕ)) (own : List Entry) (durable : ℕ) (halves : Halves) (cells : List (List Cell))
    (gone : List Run) : Type 0 where
  pub contents : after_entries base own durable ≡ redone plant (gone ++ live_runs (live halves))
  pub durable_few : durable ≤ length own
  pub fit : AllFit plant gone (live_runs (live halves)) cells

-- This holds of a book.
abbrev pub BookFits : Book → List Run → Type 0
BookFits book gone = Fits book.words (base_of book) (own book) book.durable book.halves (all_cells book.slaves) gone

-- There is a cell for each word.
pub record SameCells (plant : List (List ℕ)) (cells : List (List Cell)) : Type 0 where
  pub slaves : length cells ≡ length plant
  pub words : (slave : ℕ) → length (slice_index_or cells slave []) ≡ length (slice_index_or plant slave [])

-- Each word is later owed at most as many values more as the runs name it.
abbrev pub OwesNoMore : List (List Cell) → List (List Cell) → List Run → Type 0
OwesNoMore cells later runs =
    (slave at : ℕ) → length (cell_at later slave at).owed ≤ length (cell_at cells slave at).owed + length (values runs slave at)
