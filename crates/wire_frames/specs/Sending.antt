-- What a station sends on a line that a master keeps running (ETG.1000.4).
use Rattle.std.specs.Prelude.{◌≡◌, ◌≢◌, ◌⊎◌, ℕ, ◌+◌, ◌<◌, ◌≤◌, List, length, slice_index}
use Rattle.std.specs.List.{All}
use Rattle.ecat_frame.specs.Frame.{Pdu}
use Rattle.esc_model.specs.Bytes.{register_of}
use Rattle.wire_frames.specs.declared.faults.LineFault.{LineFault}
use Rattle.wire_frames.specs.declared.faults.LineFault.TheVariants.{Unaddressed, SharedAddress}

-- So many registers from this one on are among those of the EEPROM.
abbrev pub InEeprom : (register count : ℕ) → Type 0
InEeprom register count = (0x0500 ≤ register) × (register + count ≤ 0x0510)

-- The datagram reads or writes registers of the EEPROM of a slave, 0x0500 to 0x050F, by its station address (4 FPRD, 5 FPWR).
pub record IsForEeprom (d : Pdu) : Type 0 where
  pub by_station : (d.command ≡ 4) ⊎ (d.command ≡ 5)
  pub inside : InEeprom (register_of d.address) (length d.content)

-- The datagram changes nothing else of a running line: no slave takes it (0, NOP); or it counts the slaves (7, BRD, of the first register);
-- or it reads a station address by position (1, APRD, of 0x0010); or it is for an EEPROM.
pub data LeavesRunning (d : Pdu) : Type 0 where
  passes : d.command ≡ 0 → LeavesRunning d
  counts : d.command ≡ 7 → d.address ≡ 0 → length d.content ≡ 1 → LeavesRunning d
  looks : d.command ≡ 1 → register_of d.address ≡ 0x0010 → length d.content ≡ 2 → LeavesRunning d
  eeprom : IsForEeprom d → LeavesRunning d

-- each datagram of a frame is of those
abbrev pub OnlyEeprom : List Pdu → Type 0
OnlyEeprom frame = All LeavesRunning frame

-- The first so many slaves have station addresses of their own, and none of them is 0.
pub record AreSeparate (stations : List ℕ) (slaves : ℕ) : Type 0 where
  pub given : (k : ℕ) → k < slaves → slice_index stations k ≢ 0
  pub separate : (j k : ℕ) → j < k → k < slaves → slice_index stations j ≢ slice_index stations k

-- The fault names a slave that has no address, or two that have the same.
abbrev pub NamesClash : List ℕ → LineFault → Type 0
NamesClash stations (Unaddressed slave) = slice_index stations slave ≡ 0
NamesClash stations (SharedAddress slave other station) =
    (other < slave) × (slice_index stations other ≡ station) × (slice_index stations slave ≡ station)
NamesClash stations fault = ⊥
