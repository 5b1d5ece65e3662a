-- What contracts see of a desk and of its dispatches.
use Rattle.std.specs.Prelude.{◌≡◌, ℕ, Bool, true, false, List, nat_le, replicate}
use Rattle.book_model.specs.declared.next.DiskNext.{DiskNext}
use Rattle.book_model.specs.declared.next.DiskNext.TheVariants as disk
use Rattle.station_jobs.specs.declared.cycle.CycleJob.{CycleJob}
use Rattle.station_jobs.specs.declared.cycle.CycleNote.{CycleNote}
use Rattle.desk_book.specs.Logs.{DiskEntry, RomEntry}

-- a desk: the byte of the file at which the journal's area ends
pub record Limited : Type 0 where
  pub limit : ℕ

-- The disk's dispatch: the last byte of the file at which a write may begin, the jobs handed out so far with their outcomes, and
-- whether the last one has no outcome yet.
pub record DiskHands : Type 0 where
  pub limit : ℕ
  pub log : List DiskEntry
  pub has_job : Bool

-- a slave's dispatch, with the slave's number
pub record RomHands : Type 0 where
  pub slave : ℕ
  pub log : List RomEntry
  pub has_job : Bool

-- the dispatch of process data cycles
pub record CycleHands : Type 0 where
  pub log : List CycleNote
  pub has_job : Bool

-- This is an action, and not a write that begins after this byte of the file.
abbrev pub begins_below : ℕ → DiskNext → Bool
begins_below limit (disk.Write at bytes) = nat_le at limit
begins_below limit (disk.Gate at closed) = nat_le at limit
begins_below limit disk.Sync = true
begins_below limit disk.Idle = false
begins_below limit disk.Stop = false

abbrev pub BeginsBelow : ℕ → DiskNext → Type 0
BeginsBelow limit job = begins_below limit job ≡ true

-- All outputs of the cycle are zero.
abbrev pub IsBlank : CycleJob → Type 0
IsBlank job = job.outputs.items ≡ replicate job.plan.image.outputs 0
