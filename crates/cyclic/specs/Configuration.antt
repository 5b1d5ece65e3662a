-- The datagrams that configure the FMMUs and sync managers of a line for a process image (ETG.1000.4).
use Rattle.std.specs.Prelude.{ℕ, ◌+◌, ◌*◌, ◌==◌, Bool, not, ◌&&◌, List, [], ◌∷◌, filter, take, replicate}
use Rattle.std.specs.Bool.{beq}
use Rattle.std.specs.List.{enumerate_from, flat_map, range_with_len}
use Rattle.std.specs.Cmp.Lexicographic.{pointwise}
use Rattle.ecat_frame.specs.Frame.{Pdu, sent}
use Rattle.ecat_frame.specs.declared.command.Command.TheVariants.{Fpwr}
use Rattle.esc_model.specs.Orders.{address_of}
use Rattle.sii_image.specs.declared.process_image.Segment.{Segment}
use Rattle.cyclic.specs.Registers.{manager_bytes, fmmu_bytes}

-- writes bytes to the registers of this slave from `register` on
abbrev pub write_to : (slave register : ℕ) → List ℕ → Pdu
write_to slave register bytes = sent Fpwr 0 (address_of slave register) bytes

-- the bytes of eight FMMUs that aren't active
unfoldable pub no_fmmus : List ℕ
no_fmmus = replicate 128 0

-- The segment is this slave's.
abbrev pub is_of : ℕ → Segment → Bool
is_of slave segment = segment.slave == slave

-- the segments of this slave, in order
abbrev pub segments_of : ℕ → List Segment → List Segment
segments_of slave segments = filter (is_of slave) segments

-- sets the sync manager of a segment, and the FMMU with this number for it
abbrev pub segment_orders : ℕ → ℕ × Segment → List Pdu
segment_orders slave mapped =
    write_to slave (0x0800 + 8 * mapped.1.manager) (manager_bytes mapped.1) ∷ write_to slave (0x0600 + 16 * mapped.0) (fmmu_bytes mapped.1) ∷ []

-- For one slave: clears its FMMUs, and then sets up its first eight segments, in the image's order, with FMMU 0, 1 and so on.
abbrev pub slave_orders : List Segment → ℕ → List Pdu
slave_orders segments slave =
    write_to slave 0x0600 no_fmmus ∷ flat_map (segment_orders slave) (enumerate_from 0 (take 8 (segments_of slave segments)))

-- the same for each slave of the line
abbrev pub configuring : ℕ → List Segment → List Pdu
configuring slaves segments = flat_map (slave_orders segments) (range_with_len 0 slaves)

-- The segments are equal in every field.
abbrev pub is_same : Segment → Segment → Bool
is_same a b =
    a.slave == b.slave && a.manager == b.manager && beq a.output b.output && a.offset == b.offset && a.size == b.size && a.bits == b.bits
    && a.start == b.start && a.control == b.control

-- The slave's segments differ between the two plans.
abbrev pub differs : List Segment → List Segment → ℕ → Bool
differs old new slave = not (pointwise is_same (segments_of slave old) (segments_of slave new))

-- the same as for a configuration, but only for the slaves whose segments differ
abbrev pub reconfiguring : ℕ → List Segment → List Segment → List Pdu
reconfiguring slaves old new = flat_map (slave_orders new) (filter (differs old new) (range_with_len 0 slaves))
