-- A disk: the bytes that a read gives, the ranges that were written since the last sync, and the length at that sync.
-- A range is unsynced from the beginning of its write. A sync that succeeds empties the list; one that fails keeps it.
use Rattle.std.specs.Prelude.{◌≡◌, ℕ, ◌+◌, ◌≤◌, ◌<◌, ◌⊎◌, min, List, [], ◌∷◌, length, slice_get}
use Rattle.std.specs.List.{AllByRecursion}
pub use Rattle.esc_model.specs.Bytes.{overlaid}

-- `count` bytes from `start` on
pub record Range : Type 0 where
  pub start : ℕ
  pub count : ℕ

pub record Disk : Type 0 where
  pub bytes : List ℕ
  pub unsynced : List Range
  pub synced_length : ℕ

-- the disk as seen of a site that doesn't own it: no bytes
abbrev pub no_disk : Disk
no_disk = record { bytes = []; unsynced = []; synced_length = 0 }

-- The byte at this place isn't in the range.
abbrev pub IsOutside : ℕ → Range → Type 0
IsOutside at range = (at < range.start) ⊎ (range.start + range.count ≤ at)

-- The byte at this place is in no unsynced range.
abbrev pub IsSynced : Disk → ℕ → Type 0
IsSynced disk at = AllByRecursion (IsOutside at) disk.unsynced

-- A power cut may leave this image: outside the unsynced ranges it has the disk's bytes, and it isn't cut below the synced length.
pub record StopImage (disk : Disk) (image : List ℕ) : Type 0 where
  pub bytes : (at : ℕ) → IsSynced disk at → slice_get image at ≡ slice_get disk.bytes at
  pub no_shorter : min disk.synced_length (length disk.bytes) ≤ length image

-- A write of `count` bytes begins: its range is unsynced.
abbrev pub write_begun : Disk → ℕ → ℕ → Disk
write_begun disk at count = record disk { unsynced = record { start = at; count = count } ∷ disk.unsynced }

-- The write that has begun is done: these bytes stand from `at` on.
abbrev pub written : Disk → ℕ → List ℕ → Disk
written begun at over = record begun { bytes = overlaid begun.bytes at over }

-- A sync is done: no range is unsynced.
abbrev pub synced : Disk → Disk
synced disk = record { bytes = disk.bytes; unsynced = []; synced_length = length disk.bytes }

-- The write of `count` bytes that has begun has failed: its range may hold anything, and is still unsynced.
pub record WriteFailed (begun : Disk) (at count : ℕ) (new : Disk) : Type 0 where
  pub bytes : (place : ℕ) → IsOutside place (record { start = at; count = count }) → slice_get new.bytes place ≡ slice_get begun.bytes place
  pub no_shorter : length begun.bytes ≤ length new.bytes
  pub unsynced : new.unsynced ≡ begun.unsynced
  pub synced_length : new.synced_length ≡ begun.synced_length

-- After a power cut the disk holds one of the images, all of it synced.
pub record DiskStopped (old new : Disk) : Type 0 where
  pub image : StopImage old new.bytes
  pub all_synced : new ≡ synced new
