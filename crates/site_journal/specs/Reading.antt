-- The disk is synced and read, and its bytes are read as a journal.
use Rattle.std.specs.Prelude.{◌≡◌, ◌⊎◌, ℕ, List, [], ◌++◌, Result, Ok, Err}
use Rattle.std.specs.List.{AllByRecursion}
use Rattle.std.specs.Int.{w32}
use Rattle.jrn_format.specs.declared.fault.JournalFault.TheVariants as journal
use Rattle.jrn_format.specs.declared.journal.Journal.{Journal}
use Rattle.jrn_format.specs.Fault.{IsFaultOf}
use Rattle.jrn_format.specs.Header.{field_at}
use Rattle.jrn_format.specs.Journal.{IsJournal}
use Rattle.site_core.specs.declared.fault.DeviceFault.{DeviceFault}
use Rattle.site_core.specs.declared.fault.DeviceFault.TheVariants as faults
use Rattle.site_core.specs.State.{State, Moment, Seen, Leaves}
use Rattle.site_journal.specs.declared.fault.ReadFault.{ReadFault}
use Rattle.site_journal.specs.declared.fault.ReadFault.TheVariants as read
use Rattle.world_law.specs.Happenings.{with_synced}
use Rattle.site_journal.specs.Runs.{MakesCalls}

-- The answer of the last device call. With a fault of the journal, all calls succeeded.
abbrev pub device_answer : {T : Type 0} → Result T ReadFault → Result (Unit {0}) DeviceFault
device_answer (Ok value) = Ok tt
device_answer (Err (read.Device fault)) = Err fault
device_answer (Err (read.Journal fault)) = Ok tt

-- The disk is synced, or its sync failed. Nothing else changes unless the site stops.
abbrev pub SyncsFirst : State → Result (Unit {0}) DeviceFault → State → Type 0
SyncsFirst old (Ok done) new = new ≡ with_synced old
SyncsFirst old (Err faults.Disk) new = (new ≡ old) ⊎ (new ≡ with_synced old)
SyncsFirst old (Err faults.Lost) new = ⊥
SyncsFirst old (Err faults.Stopped) new = Unit {0}

-- No device call since has a state in its middle. A write has one, and an exchange one for each datagram that the slave took.
pub record OnlyReadsAndSyncs (old new : Seen) : Type 0 where
  pub calls : List Moment
  pub past : new.past ≡ old.past ++ calls
  pub bare : AllByRecursion (λ (moment : Moment). moment.middle ≡ []) calls

-- At most three device calls were made, none of them a write or an exchange, and at no moment could a stop leave anything that it couldn't
-- leave before.
pub record Syncs {T : Type 0} (old : Seen) (result : Result T ReadFault) (new : Seen) : Type 0 where
  pub runs : MakesCalls (Leaves old.state) old 3 (device_answer result) new
  pub no_exchange : OnlyReadsAndSyncs old new
  pub first : SyncsFirst old.state (device_answer result) new.state

-- The value holds all bytes of the disk, as `bytes_of` reads them; or memory was refused for them.
abbrev pub Gives : {T : Type 0} → (T → List ℕ) → List ℕ → Result T ReadFault → Type 0
Gives bytes_of bytes (Ok value) = bytes_of value ≡ bytes
Gives bytes_of bytes (Err (read.Journal fault)) = fault ≡ journal.Memory
Gives bytes_of bytes (Err (read.Device fault)) = Unit {0}

-- The disk is synced, and all of it is read.
pub record ReadsAll {T : Type 0} (bytes_of : T → List ℕ) (old : Seen) (result : Result T ReadFault) (new : Seen) : Type 0 where
  pub syncs : Syncs old result new
  pub gives : Gives bytes_of old.state.disk.bytes result

-- The journal that the bytes spell, with the capacity in its header; or the fault for which they spell none.
abbrev pub Finds : (sizes bytes : List ℕ) → Result (ℕ × Journal) ReadFault → Type 0
Finds sizes bytes (Ok found) = IsJournal bytes sizes found.1 × (found.0 ≡ field_at w32 4 bytes)
Finds sizes bytes (Err (read.Journal fault)) = IsFaultOf bytes sizes fault
Finds sizes bytes (Err (read.Device fault)) = Unit {0}

-- The disk is synced and read, and its bytes are read as a journal.
pub record ReadsJournal (sizes : List ℕ) (old : Seen) (result : Result (ℕ × Journal) ReadFault) (new : Seen) : Type 0 where
  pub syncs : Syncs old result new
  pub finds : Finds sizes old.state.disk.bytes result
