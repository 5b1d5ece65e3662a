-- A book that is recovering: nothing was submitted since it was opened.
use Rattle.std.specs.Prelude.{◌≡◌, ◌≢◌, ◌⊎◌, ℕ, ◌+◌, ◌<◌, ◌≤◌, false, [], length, Option, Some, Result, Ok, Err}
use Rattle.site_core.specs.declared.fault.DeviceFault.{DeviceFault}
use Rattle.site_core.specs.declared.fault.DeviceFault.TheVariants as device
use Rattle.jrn_format.specs.declared.journal.Form.{Form}
use Rattle.jrn_format.specs.Halves.{Halves, live}
use Rattle.book_model.specs.declared.fault.Fault.{Fault}
use Rattle.book_model.specs.declared.fault.Fault.TheVariants as faults
use Rattle.book_model.specs.declared.next.DiskNext.TheVariants as disk
use Rattle.book_model.specs.declared.next.RomNext.TheVariants as rom
use Rattle.book_model.specs.declared.next.RomOutcome.{RomOutcome}
use Rattle.book_model.specs.declared.next.RomOutcome.TheVariants.{Issued, Settled, Stopped}
use Rattle.book_model.specs.Book.{Book, Doing, Resting, CloseGate, CloseSync, FarGate, Mark, MarkSync, Version, VersionSync, Operation, NoOperation, Issuing, Unsettled, Settling, first_fault, is_version_2, slave_at}
use Rattle.book_model.specs.DiskSteps.{disk_next}
use Rattle.book_model.specs.RomSteps.{rom_next}
use Rattle.book_model.specs.Worn.{Worn}
use Rattle.site_journal.specs.Left.{calls_left, words_issued}

-- The book rests, or retires the older half, which has batches, or migrates an old journal, in which nothing is live.
abbrev pub IsStep : Doing → Halves → Form → Type 0
IsStep Resting halves form = Unit {0}
IsStep CloseGate halves form = halves.older ≢ []
IsStep CloseSync halves form = halves.older ≢ []
IsStep FarGate halves form = (is_version_2 form ≡ false) × (live halves ≡ [])
IsStep Mark halves form = live halves ≡ []
IsStep MarkSync halves form = live halves ≡ []
IsStep Version halves form = live halves ≡ []
IsStep VersionSync halves form = live halves ≡ []
IsStep appending halves form = ⊥

-- Nothing is handed out for the slave, though a word that was issued may wait for its settle.
abbrev pub IsBetween : Operation → Type 0
IsBetween NoOperation = Unit {0}
IsBetween (Issuing word value) = ⊥
IsBetween (Unsettled word value taken) = Unit {0}
IsBetween (Settling word value taken) = ⊥

-- A recovering book: nothing was accepted, nothing is handed out, it isn't finished, and no word was issued more often than allowed.
pub record IsRecovering (book : Book) : Type 0 where
  pub none : book.accepted ≡ []
  pub step : IsStep book.doing book.halves book.form
  pub rests : book.is_handed_out ≡ false
  pub going : book.is_finished ≡ false
  pub between : (i : ℕ) → i < length book.slaves → IsBetween (slave_at book i).operation
  pub worn : Worn book

-- The book is still recovering: at least `calls` device calls fewer are left, and `words` more words were issued.
pub record GetsNearer (calls words : ℕ) (old new : Book) : Type 0 where
  pub recovering : IsRecovering new
  pub left : calls_left new + calls ≤ calls_left old
  pub issued : words_issued new.slaves ≡ words_issued old.slaves + words

-- The book has an action for the disk.
abbrev pub HasAction : Book → Type 0
HasAction book = ((disk_next book).0 ≢ disk.Idle) × ((disk_next book).0 ≢ disk.Stop)

-- The book has no action for the disk or for any slave.
pub record HasNothingToDo (book : Book) : Type 0 where
  pub disk : (disk_next book).0 ≡ disk.Idle
  pub slaves : (i : ℕ) → i < length book.slaves → (rom_next book i).0 ≡ rom.Idle

-- A possible outcome of an issue.
abbrev pub IsOfIssue : RomOutcome → Type 0
IsOfIssue (Issued issued) = Unit {0}
IsOfIssue (Settled settled) = ⊥
IsOfIssue Stopped = Unit {0}

-- A possible outcome of a settle.
abbrev pub IsOfSettle : RomOutcome → Type 0
IsOfSettle (Issued issued) = ⊥
IsOfSettle (Settled settled) = Unit {0}
IsOfSettle Stopped = Unit {0}

-- The book's fault after an outcome for a slave: a stop is a fault, and a settle may give the slave up.
abbrev pub MayFail : ℕ → RomOutcome → (old new : Option Fault) → Type 0
MayFail slave (Issued issued) old new = new ≡ old
MayFail slave (Settled settled) old new = (new ≡ old) ⊎ (new ≡ Some (first_fault old (faults.SlaveDead slave)))
MayFail slave Stopped old new = new ≡ Some (first_fault old faults.Stopped)

-- The book's fault after an action of the disk.
abbrev pub fault_after : Result (Unit {0}) DeviceFault → Option Fault → Option Fault
fault_after (Ok done) old = old
fault_after (Err device.Disk) old = Some (first_fault old faults.Disk)
fault_after (Err device.Lost) old = old
fault_after (Err device.Stopped) old = Some (first_fault old faults.Stopped)
