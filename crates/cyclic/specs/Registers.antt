-- The bytes of a slave's registers for process data (ETG.1000.4: sync managers, FMMUs). Numbers have their low byte first.
use Rattle.std.specs.Prelude.{ℕ, List, [], ◌∷◌, ◌++◌, if◌then◌else◌}
use Rattle.std.specs.Int.{w16, w32, to_le_bytes}
use Rattle.sii_image.specs.declared.process_image.Segment.{Segment}

-- physical start u16, length u16, control, status, activate, PDI control
abbrev pub manager_bytes : Segment → List ℕ
manager_bytes segment = to_le_bytes w16 segment.start ++ to_le_bytes w16 segment.size ++ segment.control ∷ 0 ∷ 1 ∷ 0 ∷ []

-- the type of an FMMU: 1 for inputs, which it reads, 2 for outputs, which it writes
abbrev pub type_of : Segment → ℕ
type_of segment = if segment.output then 2 else 1

-- logical start u32, length u16, start bit, stop bit, physical start u16, physical start bit, type, activate, three bytes of 0
abbrev pub fmmu_bytes : Segment → List ℕ
fmmu_bytes segment =
    to_le_bytes w32 segment.offset ++ to_le_bytes w16 segment.size ++ 0 ∷ 7 ∷ to_le_bytes w16 segment.start
    ++ 0 ∷ type_of segment ∷ 1 ∷ 0 ∷ 0 ∷ 0 ∷ []
