-- The file of an old journal, of version 1 or of an interrupted migration, and what a power cut may leave of it.
use Rattle.std.specs.Prelude.{◌≡◌, ◌≢◌, ℕ, ◌+◌, ◌≤◌, List, [], ◌∷◌, ◌++◌, length, take}
use Rattle.std.specs.List.{AllByRecursion}
use Rattle.jrn_format.specs.declared.journal.Batch.{Batch}
use Rattle.jrn_format.specs.declared.journal.Form.{Form}
use Rattle.jrn_format.specs.declared.journal.Form.TheVariants.{One, Two, Moving}
use Rattle.jrn_format.specs.declared.journal.Spelling.TheVariants.{Plain}
use Rattle.jrn_format.specs.Area.{IsLive}
use Rattle.jrn_format.specs.Header.{header_bytes, IsForm}
use Rattle.jrn_format.specs.Journal.{HasLive}
use Rattle.jrn_format.specs.File.{IsFile}
use Rattle.site_core.specs.Disk.{Range, Disk}
use Rattle.book_model.specs.Frame.{JournalFrame, room}

-- ---- the file

-- The file is a header of this version, two halves as version 2 will have them, and the bytes after them.
pub record IsVersioned (frame : JournalFrame) (version : ℕ) (first second bytes : List ℕ) : Type 0 where
  pub file : IsFile (header_bytes version frame.slaves frame.capacity) 0 first second frame.last bytes
  pub room : length first ≡ room frame

-- All bytes after the header.
abbrev pub after : JournalFrame → (first second : List ℕ) → List ℕ
after frame first second = (first ++ second) ++ frame.last

-- The whole area, which version 1 doesn't divide.
abbrev pub area : JournalFrame → (first second : List ℕ) → List ℕ
area frame first second = take frame.capacity (after frame first second)

-- The mark of a migration, the letters MIG2.
abbrev pub mark_bytes : List ℕ
mark_bytes = 0x4d ∷ 0x49 ∷ 0x47 ∷ 0x32 ∷ []

-- The first gate is closed, four bytes for the mark follow it, and half 1 begins with the far gate.
pub record IsEmptied (frame : JournalFrame) (version : ℕ) (mark : List ℕ) (far : ℕ) (bytes : List ℕ) : Type 0 where
  pub gate : ℕ
  pub first : List ℕ
  pub second : List ℕ
  pub closed : gate ≢ 0xA5
  pub four : length mark ≡ 4
  pub versioned : IsVersioned frame version (gate ∷ (mark ++ first)) (far ∷ second) bytes

-- ---- the disk

-- The range lies within `count` bytes from `start`.
abbrev pub IsInside : (start count : ℕ) → Range → Type 0
IsInside start count range = (start ≤ range.start) × (range.start + range.count ≤ start + count)

-- A power cut may change bytes only within `count` bytes from `start`.
pub record TornWithin (start count : ℕ) (disk : Disk) : Type 0 where
  pub ranges : AllByRecursion (IsInside start count) disk.unsynced
  pub entire : length disk.bytes ≤ disk.synced_length

-- At rest: nothing is unsynced, and the batches are live.
pub record OldAtRest (frame : JournalFrame) (form : Form) (batches : List Batch) (disk : Disk) : Type 0 where
  pub version : ℕ
  pub first : List ℕ
  pub second : List ℕ
  pub versioned : IsVersioned frame version first second disk.bytes
  pub is_form : IsForm version (after frame first second) form
  pub live : HasLive form (area frame first second) batches
  pub synced : disk.unsynced ≡ []
  pub entire : length disk.bytes ≤ disk.synced_length

-- While version 1 is retired: its first gate may be torn, a read gives the value `gate`, and the batches are live if it is open.
pub record OldClosing (frame : JournalFrame) (batches : List Batch) (gate : ℕ) (disk : Disk) : Type 0 where
  pub rest : List ℕ
  pub second : List ℕ
  pub versioned : IsVersioned frame 1 (gate ∷ rest) second disk.bytes
  pub live : IsLive Plain 0 (area frame (0xA5 ∷ rest) second) batches
  pub torn : TornWithin 8 1 disk

-- Before the version byte is written: nothing is live. In version 1 the bytes after the first gate may be torn, up to the far gate. In an
-- interrupted migration only the far gate may be torn, since without its mark the file would not be a journal.
abbrev pub BeforeVersion : JournalFrame → Form → (mark : List ℕ) (far : ℕ) → Disk → Type 0
BeforeVersion frame One mark far disk = IsEmptied frame 1 mark far disk.bytes × TornWithin 9 (room frame) disk
BeforeVersion frame Two mark far disk = ⊥
BeforeVersion frame Moving mark far disk =
    (version : ℕ) × (version ≢ 1) × (version ≢ 2) × (mark ≡ mark_bytes) × IsEmptied frame version mark far disk.bytes
    × TornWithin (8 + room frame) 1 disk

-- While the version byte is written: the mark is there, the far gate is closed, and the version byte, now `version`, may be torn.
pub record AtVersion (frame : JournalFrame) (version : ℕ) (disk : Disk) : Type 0 where
  pub emptied : IsEmptied frame version mark_bytes 0 disk.bytes
  pub torn : TornWithin 1 1 disk
