-- How often EEPROM words of a slave are issued between two opens.
use Rattle.std.specs.Prelude.{◌≡◌, ◌⊎◌, ℕ, ◌+◌, ◌*◌, ◌<◌, ◌≤◌, Bool, false, List, length, is_some}
use Rattle.std.specs.List.{sum_by}
use Rattle.jrn_format.specs.declared.journal.Entry.{Entry}
use Rattle.book_model.specs.Cells.{Cell, since, cell_of}
use Rattle.book_model.specs.Entries.{runs_of, namings}
use Rattle.book_model.specs.Book.{Book, Slave, IsAbout, slave_at}
use Rattle.book_model.specs.Reading.{all_entries}

-- The number of words that the entries name for a slave. A word counts as often as it is named.
abbrev pub named_for : List Entry → ℕ → ℕ
named_for entries slave = length (namings (runs_of entries) slave)

-- The number of values that all words of a slave are owed.
abbrev pub owed_in : List Cell → ℕ
owed_in cells = sum_by (λ cell. length cell.owed) cells

-- The number of issues of all words since the value of each was known.
abbrev pub since_in : List Cell → ℕ
since_in cells = sum_by (λ cell. since cell.known) cells

-- A slave for which `named` words were named: at most three issues for each settled naming, and those since the value of each word was
-- known. A word is issued at most three times in a row; if it isn't written then, a fault follows.
pub record SlaveWorn (named : ℕ) (failed : Bool) (slave : Slave) : Type 0 where
  pub few : slave.issues + 3 * owed_in slave.cells ≤ 3 * named + since_in slave.cells
  pub most : (at : ℕ) → since (cell_of slave.cells at).known ≤ 3 * length (cell_of slave.cells at).owed
  pub three : (at : ℕ) → since (cell_of slave.cells at).known ≤ 3
  pub calm : failed ≡ false → (at : ℕ) → (since (cell_of slave.cells at).known ≤ 2) ⊎ IsAbout slave.operation at

-- This holds of each slave of the book, with the entries that were live at the open or have become live since.
abbrev pub Worn : Book → Type 0
Worn book = (i : ℕ) → i < length book.slaves → SlaveWorn (named_for (all_entries book) i) (is_some book.fault) (slave_at book i)
