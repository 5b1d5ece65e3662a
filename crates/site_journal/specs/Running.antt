-- What the device calls of a station keep, on any site: at each moment a stop leaves only what is kept, and afterwards the station's
-- invariant holds.
use Rattle.std.specs.Prelude.{ℕ, ◌≤◌, Bool, List, [], ◌∷◌, ◌++◌, length, take, Result, Ok, Err, slice_set}
use Rattle.sii_edit.specs.declared.command.Command.{Command}
use Rattle.site_core.specs.declared.fault.DeviceFault.{DeviceFault}
use Rattle.site_core.specs.declared.fault.DeviceFault.TheVariants as device
use Rattle.site_core.specs.declared.answers.Issued.{Issued}
use Rattle.site_core.specs.declared.answers.Settled.{Settled}
use Rattle.site_core.specs.State.{Pair, Seen}
use Rattle.site_core.specs.Calls.{WritesDisk, SyncsDisk}
use Rattle.site_core.specs.Passes.{StaysWithin}
use Rattle.book_model.specs.declared.next.DiskNext.{DiskNext}
use Rattle.book_model.specs.declared.next.DiskNext.TheVariants as next
use Rattle.book_model.specs.declared.next.RomOutcome.TheVariants as outcomes
use Rattle.book_model.specs.Book.{Book}
use Rattle.book_model.specs.DiskSteps.{disk_done}
use Rattle.book_model.specs.RomSteps.{rom_done}
use Rattle.book_model.specs.Machine.{Machine}
use Rattle.book_model.specs.Frame.{JournalFrame}
use Rattle.book_model.specs.Events.{gate_byte}
use Rattle.book_model.specs.Steps.{acknowledged_by}
use Rattle.book_model.specs.Up.{Up}
use Rattle.world_law.specs.Law.{KeptFor}

-- At each moment between the two times a stop could have left only pairs that are kept for this machine.
abbrev pub KeepsAll : Machine → Seen → Seen → Type 0
KeepsAll machine old new = StaysWithin (KeptFor machine) old new

-- ---- the disk

-- A write that begins inside the disk or right after its last byte.
pub record WritesInside (old : Seen) (at : ℕ) (bytes : List ℕ) (result : Result (Unit {0}) DeviceFault) (new : Seen) : Type 0 where
  pub inside : at ≤ length old.state.disk.bytes
  pub writes : WritesDisk old at bytes result new

-- The device call that carries out an action of the disk.
abbrev pub CallsDisk : DiskNext → Seen → Result (Unit {0}) DeviceFault → Seen → Type 0
CallsDisk (next.Write at bytes) old result new = WritesInside old at bytes result new
CallsDisk (next.Gate at closed) old result new = WritesInside old at (gate_byte closed ∷ []) result new
CallsDisk next.Sync old result new = SyncsDisk old result new
CallsDisk next.Idle old result new = ⊥
CallsDisk next.Stop old result new = ⊥

-- The station's invariant after an action of the disk. On success everything durable is acknowledged; after a stop nothing is claimed.
abbrev pub UpAfterDisk : JournalFrame → Book → List Bool → Machine → Seen → Result (Unit {0}) DeviceFault → Type 0
UpAfterDisk frame book took machine new (Ok done) =
    Up frame (disk_done book (Ok tt)) new.state took (acknowledged_by (disk_done book (Ok tt)) machine)
UpAfterDisk frame book took machine new (Err device.Disk) = Up frame (disk_done book (Err device.Disk)) new.state took machine
UpAfterDisk frame book took machine new (Err device.Lost) = ⊥
UpAfterDisk frame book took machine new (Err device.Stopped) = Unit {0}

-- ---- a slave

-- The station's invariant after an issue. After a stop nothing is claimed.
abbrev pub UpAfterIssue : JournalFrame → Book → List Bool → Machine → ℕ → Seen → Result Issued DeviceFault → Type 0
UpAfterIssue frame book took machine slave new (Ok issued) =
    (taken : Bool) × Up frame (rom_done book slave (outcomes.Issued issued)) new.state (slice_set took slave taken) machine
UpAfterIssue frame book took machine slave new (Err device.Stopped) = Unit {0}
UpAfterIssue frame book took machine slave new (Err fault) = ⊥

-- The station's invariant after a settle. After a stop nothing is claimed.
abbrev pub UpAfterSettle : JournalFrame → Book → List Bool → Machine → ℕ → Seen → Result Settled DeviceFault → Type 0
UpAfterSettle frame book took machine slave new (Ok settled) = Up frame (rom_done book slave (outcomes.Settled settled)) new.state took machine
UpAfterSettle frame book took machine slave new (Err device.Stopped) = Unit {0}
UpAfterSettle frame book took machine slave new (Err fault) = ⊥

-- ---- calls in a row

-- The pair is kept with the first j of the commands accepted meanwhile counted in.
abbrev pub KeptWith : Machine → List Command → Pair → Type 0
KeptWith machine commands pair = (j : ℕ) × (j ≤ length commands)
    × KeptFor (record machine { accepted = machine.accepted ++ take j commands }) pair

-- At each moment between the two times a stop could have left only such pairs.
abbrev pub KeepsWith : Machine → List Command → Seen → Seen → Type 0
KeepsWith machine commands old new = StaysWithin (KeptWith machine commands) old new

-- The machine with all these commands accepted, and `count` of all commands acknowledged.
abbrev pub with_commands : Machine → List Command → ℕ → Machine
with_commands machine commands count = record machine { accepted = machine.accepted ++ commands; acknowledged = count }
