-- EtherCAT frames in Ethernet frames, as a tap on the wire sees them (ETG.1000.4), without the check sequence.
use Rattle.std.specs.Prelude.{ℕ, ◌-◌, List, [], ◌∷◌, ◌++◌, length}
use Rattle.std.specs.List.{repeat}
use Rattle.line_watch.specs.declared.pcap.Way.{Way}
use Rattle.line_watch.specs.declared.pcap.Way.TheVariants.{Out, Back}

-- The first byte of the source address: a slave marks the frames that come back, by bit 1.
abbrev pub mark_of : Way → ℕ
mark_of Out = 0x00
mark_of Back = 0x02

-- destination (to all), source, EtherType 0x88A4
abbrev pub header : Way → List ℕ
header way =
    0xFF ∷ 0xFF ∷ 0xFF ∷ 0xFF ∷ 0xFF ∷ 0xFF ∷ mark_of way ∷ 0x10 ∷ 0x20 ∷ 0x30 ∷ 0x40 ∷ 0x50 ∷ 0x88 ∷ 0xA4 ∷ []

-- zeros after these bytes, up to 60 bytes in all
abbrev pub padded : List ℕ → List ℕ
padded bytes = bytes ++ repeat (60 - length bytes) (0 ∷ [])

-- the Ethernet frame of an EtherCAT frame
abbrev pub packet : Way → List ℕ → List ℕ
packet way frame = padded (header way ++ frame)
