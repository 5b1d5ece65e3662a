-- Fieldbus memory management units (ETG.1000.4): a slave has eight, at 0x0600, of 16 bytes each. They map bytes of its memory into
-- the logical address space.
use Rattle.std.specs.Prelude.{ℕ, ◌+◌, ◌-◌, ◌/◌, ◌%◌, Bool, ◌&&◌, ◌==◌, List, [], ◌∷◌, length, map, filter, fold, slice_index, slice_range, if◌then◌else◌}
use Rattle.std.specs.List.{list_any}
use Rattle.esc_model.specs.Bytes.{overlaid, word_at, double_word_at, lies_in}
use Rattle.esc_model.specs.declared.fmmu.Fmmu.{Fmmu}

-- logical start u32, length u16, start bit u8, stop bit u8, physical start u16, physical start bit u8, type u8, activate u8
abbrev pub fmmu_at : List ℕ → ℕ → Fmmu
fmmu_at bytes at = record {
  logical = double_word_at bytes at;
  count = word_at bytes (at + 4);
  physical = word_at bytes (at + 8);
  kind = slice_index bytes (at + 11);
  activate = slice_index bytes (at + 12);
}

-- the eight FMMUs of a slave
unfoldable pub fmmus : List ℕ → List Fmmu
fmmus bytes = map (fmmu_at bytes) (0x0600 ∷ 0x0610 ∷ 0x0620 ∷ 0x0630 ∷ 0x0640 ∷ 0x0650 ∷ 0x0660 ∷ 0x0670 ∷ [])

-- An FMMU acts on a logical datagram of `count` bytes from `start` on if it is active, its physical range lies in 0x1000 to 0xFFFF,
-- and its logical range lies wholly in the datagram.
abbrev pub acts : ℕ → ℕ → Fmmu → Bool
acts start count fmmu =
    fmmu.activate % 2 == 1 && lies_in 0x1000 0x10000 fmmu.physical fmmu.count && lies_in start (start + count) fmmu.logical fmmu.count

-- An FMMU that acts reads if bit 0 of its type is set, and writes if bit 1 is set.
abbrev pub reads : ℕ → ℕ → Fmmu → Bool
reads start count fmmu = acts start count fmmu && fmmu.kind % 2 == 1

abbrev pub writes : ℕ → ℕ → Fmmu → Bool
writes start count fmmu = acts start count fmmu && fmmu.kind / 2 % 2 == 1

-- the content, with the bytes of memory that this FMMU reads into it
abbrev pub read_by : List ℕ → ℕ → List ℕ → Fmmu → List ℕ
read_by memory start content fmmu = overlaid content (fmmu.logical - start) (slice_range memory fmmu.physical (fmmu.physical + fmmu.count))

-- the memory, with the bytes of the content that this FMMU writes into it
abbrev pub written_by : List ℕ → ℕ → List ℕ → Fmmu → List ℕ
written_by content start memory fmmu = overlaid memory fmmu.physical (slice_range content (fmmu.logical - start) (fmmu.logical - start + fmmu.count))

-- The working counter rises by 1 if any FMMU reads, and by 2 if any writes.
abbrev pub counter_of : List Fmmu → ℕ → ℕ → ℕ
counter_of fmmus start count = (if list_any (reads start count) fmmus then 1 else 0) + (if list_any (writes start count) fmmus then 2 else 0)

-- the content after all reads: the FMMUs read in order, and a later one overwrites an earlier one
abbrev pub all_read : List ℕ → List Fmmu → ℕ → List ℕ → List ℕ
all_read memory fmmus start content = fold (read_by memory start) content (filter (reads start (length content)) fmmus)

-- the memory after all writes: the FMMUs write, in order, bytes of the content as it came in
abbrev pub all_written : List ℕ → List Fmmu → ℕ → List ℕ → List ℕ
all_written content fmmus start memory = fold (written_by content start) memory (filter (writes start (length content)) fmmus)
