-- What a disk in memory remembers of the writes since the last sync.
use Rattle.std.specs.Prelude.{◌≡◌, ℕ, ◌<◌, ◌≤◌, List, [], length, slice_get, vec_capacity, Option, MatchOption}
use Rattle.std.specs.Global.{Vec}
use Rattle.std.specs.List.{AllByRecursion}
use Rattle.site_core.specs.Disk.{Disk, Range, IsOutside, IsSynced}

-- a disk of these bytes, all of them synced
abbrev pub of_bytes : List ℕ → Disk
of_bytes bytes = record { bytes = bytes; unsynced = []; synced_length = length bytes }

-- The `count` bytes from `at` on are unsynced.
abbrev pub Covers : Disk → ℕ → ℕ → Type 0
Covers disk at count = (place : ℕ) → IsSynced disk place → IsOutside place (record { start = at; count = count })

-- No remembered write wrote to this place.
abbrev pub IsUnmarked : List Range → ℕ → Type 0
IsUnmarked before place = AllByRecursion (IsOutside place) before

-- The invariant: only writes to unsynced places are remembered, and each place after the synced length is unsynced.
pub record Remembers (before : List Range) (disk : Disk) : Type 0 where
  pub unmarked : (place : ℕ) → IsSynced disk place → IsUnmarked before place
  pub after : (place : ℕ) → IsSynced disk place → place < length disk.bytes → place < disk.synced_length

-- No write but one to this range becomes remembered.
abbrev pub MarksOnly : List Range → Range → List Range → Type 0
MarksOnly old range new = (place : ℕ) → IsOutside place range → IsUnmarked old place → IsUnmarked new place

-- The bytes differ only in this range.
pub record DiffersWithin (range : Range) (old new : List ℕ) : Type 0 where
  pub long : length new ≡ length old
  pub same : (place : ℕ) → IsOutside place range → slice_get new place ≡ slice_get old place

-- The bytes differ only where remembered writes wrote.
pub record DiffersAtMarks (before : List Range) (old new : List ℕ) : Type 0 where
  pub long : length new ≡ length old
  pub same : (place : ℕ) → IsUnmarked before place → slice_get new place ≡ slice_get old place

-- A copy of these bytes, with room for the others up to this end.
pub record HasRoom (bytes : List ℕ) (end : ℕ) (held : Vec ℕ) : Type 0 where
  pub same : held.items ≡ bytes
  pub past : length bytes ≤ end
  pub room : end ≤ vec_capacity held

-- The memory for bytes that are to reach up to this end: none where they do already.
abbrev pub IsRoomFor : List ℕ → ℕ → Option (Vec ℕ) → Type 0
IsRoomFor bytes end room = MatchOption room (end ≤ length bytes) (HasRoom bytes end)
