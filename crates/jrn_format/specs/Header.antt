-- The header of a journal, 8 bytes: the file gate, the version, the number of slaves (2 bytes), and the area's length in bytes (4).
use Rattle.std.specs.Prelude.{◌≡◌, ◌≢◌, ℕ, ◌^◌, ◌<◌, ◌≤◌, ◌⊎◌, List, ◌∷◌, ◌++◌, length, take, drop, slice_index}
use Rattle.std.specs.Int.{Width, w16, w32, byte_len, to_le_bytes, from_le_bytes}
use Rattle.jrn_format.specs.declared.journal.Form.{Form}
use Rattle.jrn_format.specs.declared.journal.Form.TheVariants.{One, Two, Moving}
use Rattle.jrn_format.specs.declared.fault.JournalFault.{JournalFault}
use Rattle.jrn_format.specs.declared.fault.JournalFault.TheVariants.{NotAJournal, BadVersion, WrongLine, BadJournal}

-- The encoding of a header, with an open file gate.
abbrev pub header_bytes : (version slaves capacity : ℕ) → List ℕ
header_bytes version slaves capacity = 0xA5 ∷ version ∷ to_le_bytes w16 slaves ++ to_le_bytes w32 capacity

-- The little-endian number at offset `at`.
abbrev pub field_at : Width → ℕ → List ℕ → ℕ
field_at w at bytes = from_le_bytes w (take (byte_len w) (drop at bytes))

-- The file is a header with these values, followed by the bytes `after`.
pub record HasHeader (file : List ℕ) (version slaves capacity : ℕ) (after : List ℕ) : Type 0 where
  pub slaves_fit : slaves < 2 ^ 16
  pub capacity_fits : capacity < 2 ^ 32
  pub spelt : file ≡ header_bytes version slaves capacity ++ after

-- The length that an area may have, in bytes: 4,096 to 4,194,304.
abbrev pub IsCapacity : ℕ → Type 0
IsCapacity capacity = (4096 ≤ capacity) × (capacity ≤ 4194304)

-- The bytes after the header are a closed gate and the mark of a migration, the letters MIG2.
abbrev pub IsMarked : List ℕ → Type 0
IsMarked after = (gate : ℕ) × (rest : List ℕ) × (gate ≢ 0xA5) × (after ≡ gate ∷ 0x4d ∷ 0x49 ∷ 0x47 ∷ 0x32 ∷ rest)

-- The form of a journal, by its version byte and the bytes after the header. An interrupted migration may have any version byte but
-- 1 and 2.
abbrev pub IsForm : ℕ → List ℕ → Form → Type 0
IsForm version after One = version ≡ 1
IsForm version after Two = version ≡ 2
IsForm version after Moving = (version ≢ 1) × (version ≢ 2) × IsMarked after

-- The file has a valid header for a line of `slaves` slaves, in this form, and a complete area. Bytes after the area are ignored.
pub record HasArea (file : List ℕ) (slaves : ℕ) (form : Form) (area : List ℕ) : Type 0 where
  pub version : ℕ
  pub rest : List ℕ
  pub header : HasHeader file version slaves (length area) (area ++ rest)
  pub is_form : IsForm version (area ++ rest) form
  pub capacity : IsCapacity (length area)

-- The first reason, in this order, why a file has no valid header and complete area for a line of `slaves` slaves.
pub data HasNoArea (file : List ℕ) (slaves : ℕ) (fault : JournalFault) : Type 0 where
  no_header : (length file < 8) ⊎ (slice_index file 0 ≢ 0xA5) → fault ≡ NotAJournal → HasNoArea file slaves fault
  other_version : (version stated capacity : ℕ) (after : List ℕ) → HasHeader file version stated capacity after
      → ((form : Form) → IsForm version after form → ⊥) → fault ≡ BadVersion version → HasNoArea file slaves fault
  other_line : (version stated capacity : ℕ) (after : List ℕ) (form : Form) → HasHeader file version stated capacity after
      → IsForm version after form → stated ≢ slaves → fault ≡ WrongLine → HasNoArea file slaves fault
  other_capacity : (version capacity : ℕ) (after : List ℕ) (form : Form) → HasHeader file version slaves capacity after
      → IsForm version after form → (IsCapacity capacity → ⊥) → fault ≡ BadJournal 4 → HasNoArea file slaves fault
  cut_off : (version capacity : ℕ) (after : List ℕ) (form : Form) → HasHeader file version slaves capacity after
      → IsForm version after form → IsCapacity capacity → length after < capacity → fault ≡ BadJournal (length file)
      → HasNoArea file slaves fault
