-- What the disk's thread does: actions on the disk, one after another, as the events of the main law describe them.
use Rattle.std.specs.Prelude.{◌≡◌, ◌≤◌, List, length, Result, Ok, Err, Some}
use Rattle.site_core.specs.declared.fault.DeviceFault.{DeviceFault}
use Rattle.site_core.specs.declared.fault.DeviceFault.TheVariants as device
use Rattle.site_core.specs.Disk.{Disk}
use Rattle.site_core.specs.State.{State, Pair, Seen, Leaves}
use Rattle.book_model.specs.declared.next.DiskNext.{DiskNext}
use Rattle.book_model.specs.declared.next.DiskNext.TheVariants as next
use Rattle.book_model.specs.Events.{begun_on, ended_on, FailsOn}
use Rattle.site_journal.specs.Running.{CallsDisk}
use Rattle.station_jobs.specs.declared.log.Assignment.{Assignment}
use Rattle.station_jobs.specs.Jobs.{RunsToEnd}
use Rattle.station_jobs.specs.Left.{ServedJobs}

-- This is an action, and if it writes, it begins inside the disk or right after its end.
abbrev pub CanBegin : DiskNext → Disk → Type 0
CanBegin (next.Write at bytes) disk = at ≤ length disk.bytes
CanBegin (next.Gate at closed) disk = at ≤ length disk.bytes
CanBegin next.Sync disk = Unit {0}
CanBegin next.Idle disk = ⊥
CanBegin next.Stop disk = ⊥

-- The action is done by one device call.
abbrev pub DoesAction : DiskNext → Result (Unit {0}) DeviceFault → Seen → Seen → Type 0
DoesAction action result old new = CallsDisk action old result new

-- the state while the action is in progress
abbrev pub begun : DiskNext → State → State
begun action state = record state { disk = begun_on (Some action) state.disk }

-- The action began, and returned with this result.
abbrev pub ActionReturns : DiskNext → Result (Unit {0}) DeviceFault → State → State → Type 0
ActionReturns action (Ok done) old new = new ≡ record old { disk = ended_on (Some action) (begun_on (Some action) old.disk) }
ActionReturns action (Err fault) old new =
    (disk : Disk) × FailsOn (Some action) (begun_on (Some action) old.disk) disk × (new ≡ record old { disk = disk })

-- what a power cut may leave while the action is in progress
abbrev pub LeftInAction : DiskNext → State → Pair → Type 0
LeftInAction action state pair = Leaves (begun action state) pair

-- The loop did the actions of the log. It ended with `ended`, or with the action in which the site stopped, once its result was reported.
abbrev pub Flushes : (ended : Type 0) → List (Assignment DiskNext (Result (Unit {0}) DeviceFault)) → Seen → Seen → Type 0
Flushes ended log old new = RunsToEnd DoesAction (λ result. result ≡ Err device.Stopped) ended ⊥ log old new

-- the actions of a log, done one after another
abbrev pub IsFlushed : List (Assignment DiskNext (Result (Unit {0}) DeviceFault)) → Seen → Seen → Type 0
IsFlushed log old new = ServedJobs DoesAction ActionReturns LeftInAction log old new
