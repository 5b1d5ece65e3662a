-- A station is opened: the disk is synced and read, and then each slave is opened and read.
use Rattle.std.specs.Prelude.{◌≡◌, ◌⊎◌, ◌↔◌, ℕ, ◌+◌, ◌≤◌, List, length, Ok, Err, IsTrue}
use Rattle.jrn_format.specs.declared.journal.Journal.{Journal}
use Rattle.jrn_format.specs.Journal.{IsJournal}
use Rattle.esc_rom.specs.declared.fault.RomFault.{RomFault}
use Rattle.esc_rom.specs.declared.fault.RomFault.TheVariants as rom
use Rattle.esc_rom.specs.Runs.{Quiet}
use Rattle.site_core.specs.Disk.{synced}
use Rattle.site_core.specs.Line.{Line}
use Rattle.site_core.specs.State.{Seen}
use Rattle.site_core.specs.Passes.{LeavesOnly}
use Rattle.site_journal.specs.Reading.{ReadsJournal}
use Rattle.esc_rom.specs.Reading.{EndsLine, WereRead, most_calls}
use Rattle.book_model.specs.Entries.{entries_of}
use Rattle.book_model.specs.Machine.{Machine, reopened, MayKeep}
use Rattle.book_model.specs.Keeping.{IsOfBook}
use Rattle.book_model.specs.Opening.{IsFound, book_on, capacity_in, words_in}
use Rattle.station_alone.specs.declared.fault.OpenFault.{OpenFault}
use Rattle.station_alone.specs.declared.fault.OpenFault.TheVariants as faults
use Rattle.station_alone.specs.declared.opening.Found.{Found}
use Rattle.station_alone.specs.declared.opening.Reading.{Reading}
use Rattle.station_alone.specs.Station.{Station}
use Rattle.station_alone.specs.Keeping.{KeptFor}

-- The most device calls that an open makes: three for the disk, and those for the slaves.
abbrev pub most_calls_to_open : List ℕ → ℕ
most_calls_to_open sizes = 3 + most_calls sizes

-- ---- what is read

-- The journal was read, and then each slave was opened and read.
pub record ReadAll (sizes : List ℕ) (old new : Seen) : Type 0 where
  pub found : ℕ × Journal
  pub read : Seen
  pub journal : ReadsJournal sizes old (Ok found) read
  pub slaves : WereRead sizes (length sizes) read new

-- The journal and the words of 1 to 64 slaves were read. At no moment could a stop leave anything that it couldn't leave before.
pub record ReadsFound (line : Line) (old : Seen) (reading : Reading) (new : Seen) : Type 0 where
  pub quiet : Quiet old (most_calls_to_open line.sizes) new
  pub bytes : new.state.disk.bytes ≡ old.state.disk.bytes
  pub disk : new.state.disk ≡ synced old.state.disk
  pub is_journal : IsJournal old.state.disk.bytes line.sizes reading.journal
  pub found : IsFound reading.journal new.state
  pub capacity : reading.capacity ≡ capacity_in new.state.disk.bytes
  pub words : reading.words.items ≡ words_in new.state.halves
  pub some : 1 ≤ length reading.words.items
  pub most : length reading.words.items ≤ 64
  pub of_line : length reading.words.items ≡ length line.sizes
  pub all : ReadAll line.sizes old new

-- ---- the open succeeds

-- The book is opened on this journal, which the disk held, and on the words of the slaves. At no moment could a stop leave anything
-- that it couldn't leave before.
pub record OpensOn (its : Line) (old : Seen) (journal : Journal) (new : Station) : Type 0 where
  pub line : new.line ≡ its
  pub quiet : Quiet old (most_calls_to_open its.sizes) new.seen
  pub bytes : new.seen.state.disk.bytes ≡ old.state.disk.bytes
  pub disk : new.seen.state.disk ≡ synced old.state.disk
  pub is_journal : IsJournal old.state.disk.bytes its.sizes journal
  pub found : IsFound journal new.seen.state
  pub book : new.book ≡ book_on new.seen.state journal

-- The book is opened on the journal that the disk held.
abbrev pub Opens : Line → Seen → Station → Type 0
Opens line old new = (journal : Journal) × OpensOn line old journal new

-- The counts of live batches and of their commands.
pub record CountsFound (journal : Journal) (found : Found) : Type 0 where
  pub batches : found.batches ≡ length journal.batches
  pub commands : found.commands ≡ length (entries_of journal.batches)

-- The same as Opens, with these counts of the journal.
abbrev pub OpensCounted : Line → Seen → Station → Found → Type 0
OpensCounted line old new found = (journal : Journal) × OpensOn line old journal new × CountsFound journal found

-- ---- the open fails

-- The journal was read, and then a slave couldn't be opened or read, or the site stopped.
pub record FailsAtSlave (sizes : List ℕ) (old : Seen) (fault : RomFault) (new : Seen) : Type 0 where
  pub found : ℕ × Journal
  pub read : Seen
  pub journal : ReadsJournal sizes old (Ok found) read
  pub ends : EndsLine sizes read fault new
  pub stopped : IsTrue new.is_stopped ↔ (fault ≡ rom.Stopped)

-- What each fault means: why the journal wasn't read, or which slave wasn't. Memory was refused before the first device call, or after
-- the last one.
abbrev pub WhyNot : OpenFault → List ℕ → Seen → Seen → Type 0
WhyNot (faults.Journal fault) sizes old new = ReadsJournal sizes old (Err fault) new
WhyNot (faults.Slave fault) sizes old new = FailsAtSlave sizes old fault new
WhyNot faults.Memory sizes old new = (new ≡ old) ⊎ ReadAll sizes old new

-- The site is as the calls so far left it. At no moment could a stop leave anything that it couldn't leave before.
pub record FailsToOpen (its : Line) (old : Seen) (fault : OpenFault) (later : Line) (new : Seen) : Type 0 where
  pub line : later ≡ its
  pub quiet : Quiet old (most_calls_to_open its.sizes) new
  pub why : WhyNot fault its.sizes old new

-- ---- a session begins

-- A session of the machine has begun, with the first k of its commands kept: the book is the machine reopened there, and what a stop
-- may leave is kept for it.
pub record Begins (machine : Machine) (new : Station) : Type 0 where
  pub k : ℕ
  pub may_keep : MayKeep machine k
  pub of : IsOfBook new.book (reopened machine k)
  pub kept : LeavesOnly (KeptFor (reopened machine k)) new.seen.state

-- For each machine: if all that a stop could leave was kept before, a session of it has begun.
abbrev pub BeginsSession : Seen → Station → Type 0
BeginsSession old new = (machine : Machine) → LeavesOnly (KeptFor machine) old.state → Begins machine new
