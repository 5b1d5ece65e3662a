-- What the disk may hold at each step of the book, with an old journal and during its migration.
use Rattle.std.specs.Prelude.{◌≡◌, ℕ, false, List, []}
use Rattle.jrn_format.specs.declared.journal.Batch.{Batch}
use Rattle.jrn_format.specs.declared.journal.Form.{Form}
use Rattle.jrn_format.specs.declared.journal.Form.TheVariants.{One, Two, Moving}
use Rattle.jrn_format.specs.Halves.{Halves}
use Rattle.site_core.specs.Disk.{Disk}
use Rattle.book_model.specs.Book.{Book, Doing, Resting, CloseGate, CloseSync, FarGate, Mark, MarkSync, Version, VersionSync, is_version_2}
use Rattle.book_model.specs.Frame.{JournalFrame}
use Rattle.book_model.specs.Doing.{Retiring, DiskFits}
use Rattle.book_model.specs.OldFile.{mark_bytes, OldAtRest, OldClosing, BeforeVersion, AtVersion}

-- The batches of an old journal in a book: all are in the older half.
abbrev pub undivided : List Batch → Halves
undivided batches = record { at = 0; generation = 0; older = batches; newer = [] }

-- What the disk may hold at a step. Only version 1 has something to retire, or a mark to write. Nothing is appended.
abbrev pub OldDoingFits : JournalFrame → Book → Doing → Disk → Type 0
OldDoingFits frame book Resting disk = OldAtRest frame book.form book.halves.older disk
OldDoingFits frame book CloseGate disk = (book.form ≡ One) × Retiring book × ((gate : ℕ) × OldClosing frame book.halves.older gate disk)
OldDoingFits frame book CloseSync disk = (book.form ≡ One) × Retiring book × OldClosing frame book.halves.older 0 disk
OldDoingFits frame book FarGate disk = (book.halves.older ≡ []) × ((mark : List ℕ) × (far : ℕ) × BeforeVersion frame book.form mark far disk)
OldDoingFits frame book Mark disk =
    (book.halves.older ≡ []) × (book.form ≡ One) × ((mark : List ℕ) × BeforeVersion frame book.form mark 0 disk)
OldDoingFits frame book MarkSync disk = (book.halves.older ≡ []) × BeforeVersion frame book.form mark_bytes 0 disk
OldDoingFits frame book Version disk = (book.halves.older ≡ []) × ((version : ℕ) × AtVersion frame version disk)
OldDoingFits frame book VersionSync disk = (book.halves.older ≡ []) × AtVersion frame 2 disk
OldDoingFits frame book appending disk = ⊥

-- What the disk may hold now, with an old journal.
pub record OldFits (frame : JournalFrame) (book : Book) (disk : Disk) : Type 0 where
  pub old : is_version_2 book.form ≡ false
  pub halves : book.halves ≡ undivided book.halves.older
  pub holds : OldDoingFits frame book book.doing disk

-- What the disk may hold now, by the journal's form.
abbrev pub FormFits : Form → JournalFrame → Book → Disk → Type 0
FormFits One frame book disk = OldFits frame book disk
FormFits Two frame book disk = DiskFits frame book disk
FormFits Moving frame book disk = OldFits frame book disk

-- What the disk may hold now.
abbrev pub JournalFits : JournalFrame → Book → Disk → Type 0
JournalFits frame book disk = FormFits book.form frame book disk
