-- The disk of a world when an action fails, and at a stop.
use Rattle.std.specs.Prelude.{◌≡◌, ℕ, List, [], ◌∷◌, length, Option, Some, None}
use Rattle.site_core.specs.Disk.{Range, Disk, synced}
use Rattle.book_model.specs.declared.next.DiskNext.{DiskNext}
use Rattle.book_model.specs.declared.next.DiskNext.TheVariants.{Write, Gate, Sync, Idle, Stop}
use Rattle.world_run.specs.declared.disk.WorldDisk.{WorldDisk}
use Rattle.world_run.specs.declared.leaving.LeftByte.{LeftByte}
use Rattle.world_run.specs.Left.{HoldsLeft}

-- The disk that the fields stand for.
abbrev pub disk_of : WorldDisk → Disk
disk_of disk = record { bytes = disk.bytes.items; unsynced = disk.unsynced.items; synced_length = disk.synced_length }

-- A disk of these bytes, all of them synced.
abbrev pub synced_of : List ℕ → Disk
synced_of bytes = record { bytes = bytes; unsynced = []; synced_length = length bytes }

-- The range that an action writes; None if it writes nothing.
abbrev pub range_of : DiskNext → Option Range
range_of (Write at bytes) = Some (record { start = at; count = length bytes })
range_of (Gate at closed) = Some (record { start = at; count = 1 })
range_of Sync = None
range_of Idle = None
range_of Stop = None

-- That range as a list.
abbrev pub ranges_in : Option Range → List Range
ranges_in (Some range) = range ∷ []
ranges_in None = []

-- An action fails: the bytes of its range hold what is chosen for them.
pub record FailsAs (action : DiskNext) (choice : List LeftByte) (old new : Disk) : Type 0 where
  pub bytes : HoldsLeft (ranges_in (range_of action)) choice old.bytes new.bytes
  pub rest : new ≡ record old { bytes = new.bytes }

-- A stop: the unsynced bytes hold what is chosen for them, and then all bytes are synced.
pub record StopsAs (choice : List LeftByte) (old new : Disk) : Type 0 where
  pub bytes : HoldsLeft old.unsynced choice old.bytes new.bytes
  pub all_synced : new ≡ synced new
