-- The state of a slave, by what the book knows of its words and by the book's action on it.
use Rattle.std.specs.Prelude.{◌≡◌, ℕ, ◌<◌, Bool, true, List, length, slice_index_or}
use Rattle.esc_model.specs.SlaveHalf.{SlaveHalf, MayRest, MayLeave}
use Rattle.esc_model.specs.WordAccess.{TakesWord}
use Rattle.book_model.specs.Cells.{Cell, cell_of}
use Rattle.book_model.specs.Book.{Operation, NoOperation, Issuing, Unsettled, Settling}
use Rattle.book_model.specs.Owed.{MayBe, IsUnsure, IsAmong}

-- The slave took the datagram that writes this value to this word, and may have become idle since.
pub record HasTaken (slave word value : ℕ) (half : SlaveHalf) : Type 0 where
  pub before : SlaveHalf
  pub mid : SlaveHalf
  pub takes : TakesWord slave word value before mid
  pub rests : MayRest mid half

-- The slave has the word, what it holds is unknown, and it is owed the value. If the datagram was taken, the slave took it.
pub record Asks (slave word value : ℕ) (taken : Bool) (half : SlaveHalf) (cells : List Cell) : Type 0 where
  pub inside : word < length cells
  pub unsure : IsUnsure (cell_of cells word).known
  pub owed : IsAmong value (cell_of cells word).owed
  pub took : taken ≡ true → HasTaken slave word value half

-- The slave fits the book's action on it. `took`: whether it took the datagram of the last issue.
abbrev pub OperationFits : (slave : ℕ) → Operation → (took : Bool) → SlaveHalf → List Cell → Type 0
OperationFits slave NoOperation took half cells = Unit {0}
OperationFits slave (Issuing word value) took half cells = Asks slave word value took half cells
OperationFits slave (Unsettled word value taken) took half cells = Asks slave word value taken half cells
OperationFits slave (Settling word value taken) took half cells = Asks slave word value taken half cells

-- The slave fits the book's cells and the action on it: whatever a power cut leaves of its words agrees with what the book knows.
pub record SlaveFits (slave : ℕ) (half : SlaveHalf) (operation : Operation) (took : Bool) (cells : List Cell) : Type 0 where
  pub size : length cells ≡ length half.words
  pub words : (left : List ℕ) → MayLeave half left → (at : ℕ) → at < length cells
      → MayBe (cell_of cells at).known (slice_index_or left at 0)
  pub asks : OperationFits slave operation took half cells
