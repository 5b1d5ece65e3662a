-- What an action of the book does to the disk: as it begins, as it succeeds, and as it fails.
use Rattle.std.specs.Prelude.{◌≡◌, ℕ, Bool, true, false, [], ◌∷◌, length, Option, Some, None}
use Rattle.site_core.specs.Disk.{Disk, WriteFailed, write_begun, written, synced}
use Rattle.book_model.specs.declared.next.DiskNext.{DiskNext}
use Rattle.book_model.specs.declared.next.DiskNext.TheVariants as next
use Rattle.book_model.specs.Book.{Book}
use Rattle.book_model.specs.DiskSteps.{action_of}

-- The value that closes or opens a gate.
abbrev pub gate_byte : Bool → ℕ
gate_byte true = 0
gate_byte false = 0xA5

-- The disk after an action has begun: the range of a write is unsynced.
abbrev pub begun_on : Option DiskNext → Disk → Disk
begun_on None disk = disk
begun_on (Some (next.Write at bytes)) disk = write_begun disk at (length bytes)
begun_on (Some (next.Gate at closed)) disk = write_begun disk at 1
begun_on (Some next.Sync) disk = disk
begun_on (Some next.Idle) disk = disk
begun_on (Some next.Stop) disk = disk

-- The disk after an action has succeeded: a read gives what was written, or all is synced.
abbrev pub ended_on : Option DiskNext → Disk → Disk
ended_on None disk = disk
ended_on (Some (next.Write at bytes)) disk = written disk at bytes
ended_on (Some (next.Gate at closed)) disk = written disk at (gate_byte closed ∷ [])
ended_on (Some next.Sync) disk = synced disk
ended_on (Some next.Idle) disk = disk
ended_on (Some next.Stop) disk = disk

-- The disk after an action has failed: the range of a write holds anything and stays unsynced.
abbrev pub FailsOn : Option DiskNext → Disk → Disk → Type 0
FailsOn None old new = new ≡ old
FailsOn (Some (next.Write at bytes)) old new = WriteFailed old at (length bytes) new
FailsOn (Some (next.Gate at closed)) old new = WriteFailed old at 1 new
FailsOn (Some next.Sync) old new = new ≡ old
FailsOn (Some next.Idle) old new = new ≡ old
FailsOn (Some next.Stop) old new = new ≡ old

-- The action that is handed out.
abbrev pub in_progress : Book → Option DiskNext
in_progress book = action_of book book.doing

-- The book with nothing handed out.
abbrev pub rested : Book → Book
rested book = record book { is_handed_out = false }
