-- The invariant of a station while its book is open. It ties together the book, the disk, the slaves, and the machine that callers know.
use Rattle.std.specs.Prelude.{◌≡◌, ◌≢◌, ℕ, ◌≤◌, Bool, true, false, List, [], length, drop, Some, slice_get, slice_index_or}
use Rattle.std.specs.List.{AllByRecursion}
use Rattle.sii_words.specs.declared.run.Run.{Run}
use Rattle.jrn_format.specs.declared.journal.Entry.{Entry}
use Rattle.jrn_format.specs.Batch.{EntryFits, LieWithin}
use Rattle.jrn_format.specs.Halves.{Halves, InNewer}
use Rattle.esc_model.specs.SlaveHalf.{SlaveHalf}
use Rattle.site_core.specs.State.{State}
use Rattle.book_model.specs.declared.refusal.TheConstants.{QUEUE}
use Rattle.book_model.specs.Entries.{sizes_of}
use Rattle.book_model.specs.Book.{Book, Slave, Doing, own, queued, appended, all_cells, nobody, is_version_2}
use Rattle.book_model.specs.Machine.{Machine}
use Rattle.book_model.specs.Fits.{BookFits, SameCells}
use Rattle.book_model.specs.Frame.{JournalFrame}
use Rattle.book_model.specs.Keeping.{IsOfBook, IsOfLine}
use Rattle.book_model.specs.OldDoing.{JournalFits}
use Rattle.book_model.specs.Slaves.{SlaveFits}

-- Each slave fits what the book knows of it and does with it. `took`: for each slave whether it took the datagram of the last issue.
pub record SlavesFit (halves : List SlaveHalf) (slaves : List Slave) (took : List Bool) : Type 0 where
  pub count : length halves ≡ length slaves
  pub took_count : length took ≡ length slaves
  pub each : (i : ℕ) (half : SlaveHalf) → slice_get halves i ≡ Some half
      → SlaveFits i half (slice_index_or slaves i nobody).operation (slice_index_or took i false) (slice_index_or slaves i nobody).cells

-- The entries that aren't durable yet can be encoded and are within the line, and the queue is not too long.
pub record PendingFits (book : Book) : Type 0 where
  pub each : AllByRecursion EntryFits (drop book.durable (own book))
  pub within : AllByRecursion (LieWithin (sizes_of book.words)) (drop book.durable (own book))
  pub few : length (queued book) ≤ QUEUE

-- A batch is appended to the newer half only if the older half has batches.
abbrev pub AppendsAfter : Halves → Doing → Type 0
AppendsAfter halves doing = (entries : List Entry) → appended doing ≡ Some (InNewer, entries) → halves.older ≢ []

-- The invariant of a station that is up.
pub record Up (frame : JournalFrame) (book : Book) (state : State) (took : List Bool) (machine : Machine) : Type 0 where
  pub line : IsOfLine frame book
  pub of : IsOfBook book machine
  -- the runs that were live since the open and have been retired
  pub gone : List Run
  pub fits : BookFits book gone
  pub same : SameCells book.words (all_cells book.slaves)
  pub disk : JournalFits frame book state.disk
  pub slaves : SlavesFit state.halves book.slaves took
  pub pending : PendingFits book
  -- while the older half is empty, the newer half is too
  pub ordered : book.halves.older ≡ [] → book.halves.newer ≡ []
  pub after : AppendsAfter book.halves book.doing
  -- a journal of an older version takes no command, and one of version 2 isn't migrated
  pub no_command : is_version_2 book.form ≡ false → book.accepted ≡ []
  pub no_migration : is_version_2 book.form ≡ true → book.is_migrating ≡ false
