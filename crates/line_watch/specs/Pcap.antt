-- Capture files: the classic pcap format with times in nanoseconds (draft-ietf-opsawg-pcap). All numbers are low byte first.
use Rattle.std.specs.Prelude.{◌≡◌, ℕ, List, ◌++◌, length}
use Rattle.std.specs.Int.{w16, w32, to_le_bytes}
use Rattle.line_watch.specs.declared.pcap.Way.{Way}
use Rattle.line_watch.specs.Ethernet.{packet}

-- magic number, version 2.4, two reserved words, the most bytes of a packet, link type 1 (Ethernet)
abbrev pub file_header : List ℕ
file_header =
    to_le_bytes w32 0xA1B23C4D ++ to_le_bytes w16 2 ++ to_le_bytes w16 4 ++ to_le_bytes w32 0 ++ to_le_bytes w32 0
    ++ to_le_bytes w32 1514 ++ to_le_bytes w32 1

-- A packet: seconds since 1970, nanoseconds, how many of its bytes follow, how many it has, the bytes.
abbrev pub record_bytes : (seconds nanos : ℕ) → List ℕ → List ℕ
record_bytes seconds nanos packet =
    to_le_bytes w32 seconds ++ to_le_bytes w32 nanos ++ to_le_bytes w32 (length packet) ++ to_le_bytes w32 (length packet) ++ packet

-- These bytes are the packet of an EtherCAT frame that went this way, at some time.
pub record IsRecord (way : Way) (frame bytes : List ℕ) : Type 0 where
  pub seconds : ℕ
  pub nanos : ℕ
  pub is : bytes ≡ record_bytes seconds nanos (packet way frame)
