-- What a request for a job, and the report of its outcome, do to the book under its lock.
use Rattle.std.specs.Prelude.{◌≡◌, ◌⊎◌, ◌+◌, ◌-◌, ◌&&◌, ◌||◌, ◌==◌, ℕ, Bool, true, false, not, MatchBool, List, Option, Some, None, Result, Ok, length, slice_get, is_some, nat_le, if◌then◌else◌}
use Rattle.sii_image.specs.declared.plan.Plan.{Plan}
use Rattle.sii_image.specs.ProcessImage.{process_image}
use Rattle.site_core.specs.declared.fault.DeviceFault.{DeviceFault}
use Rattle.book_model.specs.declared.next.DiskNext.{DiskNext}
use Rattle.book_model.specs.declared.next.DiskNext.TheVariants as disk
use Rattle.book_model.specs.declared.next.RomNext.{RomNext}
use Rattle.book_model.specs.declared.next.RomNext.TheVariants as rom
use Rattle.book_model.specs.declared.next.RomOutcome.{RomOutcome}
use Rattle.book_model.specs.Book.{Book}
use Rattle.book_model.specs.Reading.{applied, planned}
use Rattle.book_core.specs.Plan.{IsPlan}
use Rattle.book_core.specs.Wear.{IssuesFew}
use Rattle.station_jobs.specs.declared.cycle.CycleNote.{CycleNote}
use Rattle.desk_book.specs.declared.call.Call.TheVariants.{DiskAsked, DiskReported, SlaveAsked, SlaveReported, PlanAsked}
use Rattle.desk_book.specs.declared.heard.Heard.{Heard}
use Rattle.desk_book.specs.declared.heard.Heard.TheVariants.{Work, Nothing, NoMemory, Stop}
use Rattle.station_jobs.specs.Noted.{is_waiting}
use Rattle.desk_book.specs.Logs.{disk_log, rom_log, cycle_log}
use Rattle.desk_book.specs.Serving.{Serving, with_call}

-- ---- without the book

-- The book isn't asked: this is the answer, and nothing changes.
abbrev pub IsUnasked : {J : Type 0} → (answer heard : Heard J) → (old new : Serving) → Type 0
IsUnasked answer heard old new = (heard ≡ answer) × (new ≡ old)

-- ---- the disk

-- there is an action to do
abbrev pub is_disk_job : DiskNext → Bool
is_disk_job disk.Idle = false
is_disk_job disk.Stop = false
is_disk_job job = true

-- how many bytes the action writes; 0 if it is no write
abbrev pub bytes_of : DiskNext → ℕ
bytes_of (disk.Write at bytes) = length bytes
bytes_of other = 0

-- This is told of the book's answer: an action twice, and `Nothing` and `Stop` for `Idle` and `Stop`.
abbrev pub TellsDisk : DiskNext → Heard (DiskNext × DiskNext) → Type 0
TellsDisk next (Work jobs) = (jobs.1 ≡ jobs.0) × (is_disk_job jobs.0 ≡ true) × (next ≡ jobs.0)
TellsDisk next Nothing = next ≡ disk.Idle
TellsDisk next NoMemory = ⊥
TellsDisk next Stop = next ≡ disk.Stop

-- The book is asked for the next action on the disk. An action is answered twice. `Nothing` and `Stop` are the book's `Idle` and `Stop`.
abbrev pub HearsDisk : Heard (DiskNext × DiskNext) → (old new : Serving) → Type 0
HearsDisk (Work jobs) old new = (jobs.1 ≡ jobs.0) × (is_disk_job jobs.0 ≡ true) × (new ≡ with_call old (DiskAsked jobs.0))
HearsDisk Nothing old new = new ≡ with_call old (DiskAsked disk.Idle)
HearsDisk NoMemory old new = new ≡ old
HearsDisk Stop old new = new ≡ with_call old (DiskAsked disk.Stop)

-- If the jobs have stopped for want of memory, the answer is `Stop`. Else, if an action is out, it is `Nothing`. Else the book is asked.
abbrev pub AsksDisk : Heard (DiskNext × DiskNext) → (old new : Serving) → Type 0
AsksDisk heard old new =
    MatchBool old.has_stopped (IsUnasked Stop heard old new)
    (MatchBool (is_waiting (disk_log old.calls)) (IsUnasked Nothing heard old new) (HearsDisk heard old new))

-- The outcome of the action that is out is reported. If none is out, nothing changes.
abbrev pub disk_reported : Serving → Result (Unit {0}) DeviceFault → Serving
disk_reported old outcome = if is_waiting (disk_log old.calls) then with_call old (DiskReported outcome) else old

-- ---- a slave

-- there is a word to issue or to settle
abbrev pub is_rom_job : RomNext → Bool
is_rom_job rom.Idle = false
is_rom_job rom.Stop = false
is_rom_job job = true

-- This is told of the book's answer: a job, and `Nothing` and `Stop` for `Idle` and `Stop`.
abbrev pub TellsSlave : RomNext → Heard RomNext → Type 0
TellsSlave next (Work job) = (is_rom_job job ≡ true) × (next ≡ job)
TellsSlave next Nothing = next ≡ rom.Idle
TellsSlave next NoMemory = ⊥
TellsSlave next Stop = next ≡ rom.Stop

-- The book is asked for the next job of this slave. `Nothing` and `Stop` are the book's `Idle` and `Stop`.
abbrev pub HearsSlave : ℕ → Heard RomNext → (old new : Serving) → Type 0
HearsSlave slave (Work job) old new = (is_rom_job job ≡ true) × (new ≡ with_call old (SlaveAsked slave job))
HearsSlave slave Nothing old new = new ≡ with_call old (SlaveAsked slave rom.Idle)
HearsSlave slave NoMemory old new = new ≡ old
HearsSlave slave Stop old new = new ≡ with_call old (SlaveAsked slave rom.Stop)

-- If the jobs have stopped for want of memory, or the line hasn't got this slave, the answer is `Stop`. Else, if a job of the slave is out,
-- it is `Nothing`. Else the book is asked.
abbrev pub AsksSlave : (opened : Book) → ℕ → Heard RomNext → (old new : Serving) → Type 0
AsksSlave opened slave heard old new =
    MatchBool (old.has_stopped || nat_le (length opened.words) slave) (IsUnasked Stop heard old new)
    (MatchBool (is_waiting (rom_log slave old.calls)) (IsUnasked Nothing heard old new) (HearsSlave slave heard old new))

-- Where a job is handed out, each slave was issued at most three words for each word that is named for it.
abbrev pub WearsFew : Heard RomNext → Book → Type 0
WearsFew (Work job) book = IssuesFew book
WearsFew heard book = Unit {0}

-- The outcome of the slave's job that is out is reported. If none is out, or the line doesn't have the slave, nothing changes.
abbrev pub SlaveIsReported : (slave : ℕ) → RomOutcome → (old new : Serving) → Type 0
SlaveIsReported slave outcome old new =
    (new ≡ old) ⊎ ((is_waiting (rom_log slave old.calls) ≡ true) × (new ≡ with_call old (SlaveReported slave outcome)))

-- ---- the plan

-- what a log keeps of a plan
abbrev pub note_of : Plan → CycleNote
note_of plan = record { prefix = plan.prefix; size = plan.image.outputs + plan.image.inputs }

-- The book was finished, and all its commands are settled: its plan stays as it is.
abbrev pub is_done : Book → Bool
is_done book = book.is_finished && (applied book == length book.accepted)

-- the last cycle of the log
abbrev pub last_turn : List CycleNote → Option CycleNote
last_turn log = slice_get log (length log - 1)

-- the cycle was of the contents after this many commands
abbrev pub is_of_prefix : ℕ → Option CycleNote → Bool
is_of_prefix prefix None = false
is_of_prefix prefix (Some turn) = turn.prefix == prefix

-- There are no more cycles to do: the book has a fault, or its plan stays as it is and the last cycle of the log was of it.
abbrev pub has_no_more_turns : Book → List CycleNote → Bool
has_no_more_turns book log = is_some book.fault || (is_done book && is_of_prefix (applied book) (last_turn log))

-- The next cycle would repeat the last one of the log: there are more cycles to do, and the last one was of the book's plan.
abbrev pub is_repeating : Book → List CycleNote → Bool
is_repeating book log = not (has_no_more_turns book log) && is_of_prefix (applied book) (last_turn log)

-- the cycle exchanged no bytes
abbrev pub is_without_bytes : Option CycleNote → Bool
is_without_bytes None = false
is_without_bytes (Some turn) = turn.size == 0

-- The cycle rests: the last cycle of the log was of the book's plan, and its process image is empty.
abbrev pub is_resting : Book → List CycleNote → Bool
is_resting book log = is_of_prefix (applied book) (last_turn log) && is_without_bytes (last_turn log)

-- The book is asked for a plan, and its contents have no process image.
abbrev pub HasNoImage : Book → (old new : Serving) → Type 0
HasNoImage book old new = (process_image (planned book) ≡ None) × (new ≡ with_call old (PlanAsked None))

-- The book is asked for the plan of the next process data cycle. A plan is exactly the book's own. Without a process image the answer is
-- `Stop` if the plan stays as it is, and else `Nothing`.
abbrev pub HearsPlan : Book → Heard Plan → (old new : Serving) → Type 0
HearsPlan book (Work plan) old new = IsPlan book (Ok plan) × (new ≡ with_call old (PlanAsked (Some (note_of plan))))
HearsPlan book Nothing old new = (is_done book ≡ false) × HasNoImage book old new
HearsPlan book NoMemory old new = new ≡ old
HearsPlan book Stop old new = (is_done book ≡ true) × HasNoImage book old new

-- If the jobs have stopped for want of memory, or there are no more cycles to do, the answer is `Stop`. Else, while the cycle rests, it is
-- `Nothing`. Else the book is asked.
abbrev pub AsksPlan : Book → Heard Plan → (old new : Serving) → Type 0
AsksPlan book heard old new =
    MatchBool (old.has_stopped || has_no_more_turns book (cycle_log old.calls)) (IsUnasked Stop heard old new)
    (MatchBool (is_resting book (cycle_log old.calls)) (IsUnasked Nothing heard old new) (HearsPlan book heard old new))
