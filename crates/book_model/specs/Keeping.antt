-- Conditions under which whatever a power cut leaves is recoverable.
use Rattle.std.specs.Prelude.{◌≡◌, length}
use Rattle.std.specs.List.{AllByRecursion}
use Rattle.jrn_format.specs.Batch.{IsWithin}
use Rattle.jrn_format.specs.Halves.{live}
use Rattle.book_model.specs.Entries.{sizes_of}
use Rattle.book_model.specs.Book.{Book, base_of}
use Rattle.book_model.specs.Machine.{Machine}
use Rattle.book_model.specs.Machine as machines
use Rattle.book_model.specs.Frame.{JournalFrame, IsJournalFrame}

-- The machine is what callers know of the book, with all durable commands acknowledged.
pub record IsOfBook (book : Book) (machine : Machine) : Type 0 where
  pub base : machines.base_of machine ≡ base_of book
  pub accepted : machine.accepted ≡ book.accepted
  pub acknowledged : machine.acknowledged ≡ book.durable

-- The file is a journal of the book's line.
pub record IsOfLine (frame : JournalFrame) (book : Book) : Type 0 where
  pub is_frame : IsJournalFrame frame
  pub slaves : length book.words ≡ frame.slaves
  pub capacity : book.capacity ≡ frame.capacity
  pub within : AllByRecursion (IsWithin (sizes_of book.words)) (live book.halves)
