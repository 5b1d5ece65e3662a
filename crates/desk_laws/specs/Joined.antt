-- A desk's disk and slaves together, each where the jobs that were handed out for it have led it.
use Rattle.std.specs.Prelude.{◌≡◌, ℕ, List, [], ◌∷◌, ◌++◌, length, Some, None, slice_get}
use Rattle.std.specs.List.{AllByRecursion}
use Rattle.jrn_format.specs.declared.journal.Journal.{Journal}
use Rattle.jrn_format.specs.Journal.{IsJournal}
use Rattle.sii_words.specs.Redo.{redone}
use Rattle.esc_model.specs.SlaveHalf.{SlaveHalf}
use Rattle.site_core.specs.Disk.{Disk}
use Rattle.site_core.specs.State.{State, Pair, Seen}
use Rattle.site_core.specs.Passes.{LeavesOnly}
use Rattle.book_model.specs.Book.{Book, base_of}
use Rattle.book_model.specs.Entries.{sizes_of, live_runs}
use Rattle.book_model.specs.Machine.{Machine, reopened, MayKeep}
use Rattle.book_model.specs.Machine as machines
use Rattle.book_model.specs.Kept.{Kept}
use Rattle.book_model.specs.Opening.{IsFound, words_in}
use Rattle.world_law.specs.Law.{EventFits, KeptFor, MachineFits}
use Rattle.station_jobs.specs.declared.log.Assignment.{Assignment}
use Rattle.station_jobs.specs.Left.{LeftInProgress}
use Rattle.station_jobs.specs.Flushing.{LeftInAction, IsFlushed}
use Rattle.station_jobs.specs.Working.{LeftInCall, IsWorked}
use Rattle.desk_book.specs.declared.call.Call.{Call}
use Rattle.desk_book.specs.Logs.{DiskEntry, RomEntry, disk_log, rom_log}
use Rattle.desk_laws.specs.Events.{event_of}

-- There is at most one job, and it has no outcome yet.
abbrev pub MayBeOut : {J O : Type 0} → List (Assignment J O) → Type 0
MayBeOut [] = Unit {0}
MayBeOut (last ∷ []) = last.outcome ≡ None
MayBeOut jobs = ⊥

-- The actions that the calls handed out led the disk from `old` to `new`. The last one may be in progress: then a power cut leaves what
-- it leaves during this action.
pub record DiskGoes (calls : List Call) (old new : Disk) : Type 0 where
  -- the jobs that have returned, and the one that is in progress
  pub done : List DiskEntry
  pub out : List DiskEntry
  pub log_is : disk_log calls ≡ done ++ out
  pub may_be_out : MayBeOut out
  -- the flusher's site when it began, the same site once those jobs had returned, and its state now
  pub start : Seen
  pub mid : Seen
  pub flushed : IsFlushed done start mid
  pub now : State
  pub stands : LeavesOnly (LeftInProgress LeftInAction out mid.state) now
  pub began : start.state.disk ≡ old
  pub is : now.disk ≡ new

-- In the same way, the jobs that the calls handed out for this slave led its half from `old` to `new`.
pub record SlaveGoes (calls : List Call) (slave : ℕ) (old new : SlaveHalf) : Type 0 where
  pub done : List RomEntry
  pub out : List RomEntry
  pub log_is : rom_log slave calls ≡ done ++ out
  pub may_be_out : MayBeOut out
  pub start : Seen
  pub mid : Seen
  pub worked : IsWorked slave done start mid
  pub now : State
  pub stands : LeavesOnly (LeftInProgress (LeftInCall slave) out mid.state) now
  pub began : slice_get start.state.halves slave ≡ Some old
  pub is : slice_get now.halves slave ≡ Some new

-- The jobs that the calls handed out led the disk and all slaves from `old` to `new`, each at its own pace, with at most one job in
-- progress for each of them.
pub record AllGo (calls : List Call) (old new : State) : Type 0 where
  pub disk : DiskGoes calls old.disk new.disk
  pub count : length new.halves ≡ length old.halves
  pub slaves : (slave : ℕ) (half later : SlaveHalf) → slice_get old.halves slave ≡ Some half → slice_get new.halves slave ≡ Some later
      → SlaveGoes calls slave half later

-- If the call submitted a command, it is made of 16-bit words.
abbrev pub CallFits : Call → Type 0
CallFits call = EventFits (event_of call)

-- the machine with the book's accepted commands, all durable ones acknowledged
abbrev pub served_by : Machine → Book → Machine
served_by machine book = record machine { accepted = book.accepted; acknowledged = book.durable }

-- A book was opened on this line. What was found there is recoverable for this machine, and the calls submit 16-bit words alone.
pub record IsOpenedOn (machine : Machine) (journal : Journal) (state : State) (calls : List Call) : Type 0 where
  pub found : IsFound journal state
  pub kept : Kept state.disk.bytes (words_in state.halves) machine
  pub fits : MachineFits machine
  pub commands_fit : AllByRecursion CallFits calls

-- The book was opened on the contents after a prefix of the machine's commands, with every acknowledged one in it; a new session began
-- there. A power cut leaves only what is recoverable for this session, with the book's commands and all durable ones acknowledged.
pub record IsKeptAs (machine : Machine) (book : Book) (state : State) : Type 0 where
  pub k : ℕ
  pub may_keep : MayKeep machine k
  pub base : machines.base_of (reopened machine k) ≡ base_of book
  pub kept : LeavesOnly (KeptFor (served_by (reopened machine k) book)) state

-- Redo of the live journal on this disk turns these words into these contents.
pub record LeadsTo (contents : List (List ℕ)) (pair : Pair) : Type 0 where
  pub journal : Journal
  pub live : IsJournal pair.disk (sizes_of pair.words) journal
  pub same : redone pair.words (live_runs journal.batches) ≡ contents
