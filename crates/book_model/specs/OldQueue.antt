-- Conditions on a book that begins its next action on the disk, by the form of its journal.
use Rattle.std.specs.Prelude.{◌≡◌, true, []}
use Rattle.jrn_format.specs.declared.journal.Form.{Form}
use Rattle.jrn_format.specs.declared.journal.Form.TheVariants.{One, Two, Moving}
use Rattle.book_model.specs.Entries.{live_runs}
use Rattle.book_model.specs.Book.{Book, queued, all_cells}
use Rattle.book_model.specs.Reading.{runs_settled}
use Rattle.book_model.specs.Plants.{AllSettled}
use Rattle.book_model.specs.Frame.{JournalFrame, IsJournalFrame}
use Rattle.book_model.specs.Queued.{CanBegin}

-- A book with an old journal may begin its next action. Nothing is queued, since an old journal takes no command.
pub record OldCanBegin (frame : JournalFrame) (book : Book) : Type 0 where
  pub is_frame : IsJournalFrame frame
  pub capacity : book.capacity ≡ frame.capacity
  pub none : queued book ≡ []
  pub tested : runs_settled (all_cells book.slaves) (live_runs book.halves.newer) (live_runs book.halves.older) ≡ true
      → AllSettled book.words (live_runs book.halves.newer) (all_cells book.slaves)

-- A book may begin its next action, by the journal's form.
abbrev pub FormCanBegin : Form → JournalFrame → Book → Type 0
FormCanBegin One frame book = OldCanBegin frame book
FormCanBegin Two frame book = CanBegin frame book
FormCanBegin Moving frame book = OldCanBegin frame book

-- A book may begin its next action on the disk.
abbrev pub JournalCanBegin : JournalFrame → Book → Type 0
JournalCanBegin frame book = FormCanBegin book.form frame book
