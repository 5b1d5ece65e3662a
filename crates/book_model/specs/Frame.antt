-- The constant parts of the file of a journal of version 2.
use Rattle.std.specs.Prelude.{◌≡◌, ℕ, ◌+◌, ◌*◌, ◌/◌, ◌^◌, ◌<◌, ◌≤◌, List, [], ◌∷◌, length}
use Rattle.jrn_format.specs.Header.{header_bytes, IsCapacity}
use Rattle.jrn_format.specs.Halves.{Halves, Place, half_of, batches_in, size}
use Rattle.jrn_format.specs.File.{IsFile}
use Rattle.site_core.specs.Disk.{Disk}

-- The number of slaves, the length of the area in bytes, and the bytes after the halves.
pub record JournalFrame : Type 0 where
  pub slaves : ℕ
  pub capacity : ℕ
  pub last : List ℕ

-- The header.
abbrev pub head : JournalFrame → List ℕ
head frame = header_bytes 2 frame.slaves frame.capacity

-- The length of a half, in bytes.
abbrev pub room : JournalFrame → ℕ
room frame = frame.capacity / 2

-- The values fit the header, and the area is complete.
pub record IsJournalFrame (frame : JournalFrame) : Type 0 where
  pub slaves_fit : frame.slaves < 2 ^ 16
  pub is_capacity : IsCapacity frame.capacity
  pub entire : frame.capacity ≤ room frame + room frame + length frame.last

-- The file consists of the constant parts and these two halves, where `one` is half `at`.
pub record IsFramed (frame : JournalFrame) (at : ℕ) (one two bytes : List ℕ) : Type 0 where
  pub file : IsFile (head frame) at one two frame.last bytes
  pub room : length one ≡ room frame

-- The file offset of the gate before the next batch at this place.
abbrev pub gate_at : JournalFrame → Halves → Place → ℕ
gate_at frame halves place = 8 + half_of halves place * room frame + size (batches_in halves place)

-- Exactly one range is unsynced, of `count` bytes from `start`.
abbrev pub IsOne : Disk → ℕ → ℕ → Type 0
IsOne disk start count = disk.unsynced ≡ record { start = start; count = count } ∷ []
