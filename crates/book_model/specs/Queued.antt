-- Conditions on a book that begins its next action on the disk.
use Rattle.std.specs.Prelude.{◌≡◌, ℕ, ◌^◌, ◌<◌, ◌≤◌, false, true, List, [], length}
use Rattle.std.specs.List.{AllByRecursion}
use Rattle.jrn_format.specs.declared.journal.Entry.{Entry}
use Rattle.jrn_format.specs.Batch.{EntryFits, LieWithin}
use Rattle.book_model.specs.Entries.{live_runs, sizes_of}
use Rattle.book_model.specs.Book.{Book, own, queued, all_cells}
use Rattle.book_model.specs.DiskSteps.{can_migrate}
use Rattle.book_model.specs.Reading.{runs_settled}
use Rattle.book_model.specs.Plants.{AllSettled}
use Rattle.book_model.specs.Frame.{JournalFrame, IsJournalFrame}

-- The entries can be encoded, and are within the line.
pub record CanQueue (sizes : List ℕ) (entries : List Entry) : Type 0 where
  pub each : AllByRecursion EntryFits entries
  pub within : AllByRecursion (LieWithin sizes) entries
  pub count : length entries < 2 ^ 16

-- A book with a journal of version 2 may begin its next action on the disk.
pub record CanBegin (frame : JournalFrame) (book : Book) : Type 0 where
  pub is_frame : IsJournalFrame frame
  pub capacity : book.capacity ≡ frame.capacity
  pub durable : book.durable ≤ length (own book)
  pub queue : CanQueue (sizes_of book.words) (queued book)
  -- while the older half is empty, the newer half is too
  pub ordered : book.halves.older ≡ [] → book.halves.newer ≡ []
  pub tested : runs_settled (all_cells book.slaves) (live_runs book.halves.newer) (live_runs book.halves.older) ≡ true
      → AllSettled book.words (live_runs book.halves.newer) (all_cells book.slaves)
  pub no_migration : can_migrate book ≡ false
