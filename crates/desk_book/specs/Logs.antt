-- The jobs that the calls of a book hand out to the disk, to each slave and to the cycle.
use Rattle.std.specs.Prelude.{ℕ, ◌==◌, List, [], ◌∷◌, ◌++◌, Some, None, Result, fold, if◌then◌else◌}
use Rattle.site_core.specs.declared.fault.DeviceFault.{DeviceFault}
use Rattle.book_model.specs.declared.next.DiskNext.{DiskNext}
use Rattle.book_model.specs.declared.next.DiskNext.TheVariants as disk
use Rattle.book_model.specs.declared.next.RomNext.{RomNext}
use Rattle.book_model.specs.declared.next.RomNext.TheVariants as rom
use Rattle.book_model.specs.declared.next.RomOutcome.{RomOutcome}
use Rattle.station_jobs.specs.declared.log.Assignment.{Assignment}
use Rattle.station_jobs.specs.declared.cycle.CycleNote.{CycleNote}
use Rattle.station_jobs.specs.Dispatch.{with_outcome}
use Rattle.desk_book.specs.declared.call.Call.{Call}
use Rattle.desk_book.specs.declared.call.Call.TheVariants.{DiskAsked, DiskReported, SlaveAsked, SlaveReported, PlanAsked}

-- the log with one more job, which has no outcome yet
abbrev pub with_job : {J O : Type 0} → List (Assignment J O) → J → List (Assignment J O)
with_job log job = log ++ record { job = job; outcome = None } ∷ []

-- ---- the flusher

-- an action on the disk with its outcome
abbrev pub DiskEntry : Type 0
DiskEntry = Assignment DiskNext (Result (Unit {0}) DeviceFault)

-- the log after this answer: an action is added, unless there is nothing to do
abbrev pub with_disk_answer : List DiskEntry → DiskNext → List DiskEntry
with_disk_answer log disk.Idle = log
with_disk_answer log disk.Stop = log
with_disk_answer log job = with_job log job

-- the disk's log after one more call
abbrev pub disk_noted : List DiskEntry → Call → List DiskEntry
disk_noted log (DiskAsked answer) = with_disk_answer log answer
disk_noted log (DiskReported outcome) = with_outcome log outcome
disk_noted log call = log

-- the actions on the disk that the calls handed out, with the outcomes that were reported
abbrev pub disk_log : List Call → List DiskEntry
disk_log calls = fold disk_noted [] calls

-- ---- the worker of a slave

-- an issue or a settle with its outcome
abbrev pub RomEntry : Type 0
RomEntry = Assignment RomNext RomOutcome

-- the log after this answer: a job is added, unless there is nothing to do
abbrev pub with_rom_answer : List RomEntry → RomNext → List RomEntry
with_rom_answer log rom.Idle = log
with_rom_answer log rom.Stop = log
with_rom_answer log job = with_job log job

-- the log of slave `i` after one more call
abbrev pub rom_noted : ℕ → List RomEntry → Call → List RomEntry
rom_noted i log (SlaveAsked slave answer) = if slave == i then with_rom_answer log answer else log
rom_noted i log (SlaveReported slave outcome) = if slave == i then with_outcome log outcome else log
rom_noted i log call = log

-- the jobs of slave `i` that the calls handed out, with the outcomes that were reported
abbrev pub rom_log : ℕ → List Call → List RomEntry
rom_log i calls = fold (rom_noted i) [] calls

-- ---- the cycle

-- the cycle's log after one more call
abbrev pub turn_noted : List CycleNote → Call → List CycleNote
turn_noted log (PlanAsked (Some note)) = log ++ note ∷ []
turn_noted log call = log

-- the process data cycles that the calls handed out
abbrev pub cycle_log : List Call → List CycleNote
cycle_log calls = fold turn_noted [] calls
