-- The datagrams that read and write the words of a slave's EEPROM (ETG.1000.4, slave information interface). The bytes of a register
-- are in order, the low byte first.
use Rattle.std.specs.Prelude.{ℕ, ◌+◌, ◌*◌, ◌^◌, [], ◌∷◌, ◌++◌}
use Rattle.std.specs.Int.{w16, w32, to_le_bytes}
use Rattle.ecat_frame.specs.Frame.{Pdu, sent}
use Rattle.ecat_frame.specs.declared.command.Command.TheVariants.{Fprd, Fpwr}

-- the station address of a slave, by its number on the line
abbrev pub station : ℕ → ℕ
station slave = 0x1001 + slave

-- the address of an FP command: the station address in the low 16 bits, the register in the high ones
abbrev pub address_of : (slave register : ℕ) → ℕ
address_of slave register = station slave + 2 ^ 16 * register

-- sets who has access: bit 0 offers the EEPROM to the PDI, bit 1 forces ECAT access
abbrev pub access_order : (slave access : ℕ) → Pdu
access_order slave access = sent Fpwr 0 (address_of slave 0x0500) (access ∷ [])

-- reads control and status
abbrev pub poll_order : (slave : ℕ) → Pdu
poll_order slave = sent Fprd 0 (address_of slave 0x0502) (0 ∷ 0 ∷ [])

-- command 000: idle, and clear the error bits
abbrev pub clear_order : (slave : ℕ) → Pdu
clear_order slave = sent Fpwr 0 (address_of slave 0x0502) (0 ∷ 0 ∷ [])

-- command 001, read: control 0x0100, and the number of the first of the two words
abbrev pub read_order : (slave word : ℕ) → Pdu
read_order slave word = sent Fpwr 0 (address_of slave 0x0502) (to_le_bytes w16 0x0100 ++ to_le_bytes w32 word)

-- fetches the two words that were read
abbrev pub fetch_order : (slave : ℕ) → Pdu
fetch_order slave = sent Fprd 0 (address_of slave 0x0508) (0 ∷ 0 ∷ 0 ∷ 0 ∷ [])

-- command 010, write: control 0x0201, with write enable, then the word's number and its value
abbrev pub write_order : (slave word value : ℕ) → Pdu
write_order slave word value =
    sent Fpwr 0 (address_of slave 0x0502) (to_le_bytes w16 0x0201 ++ to_le_bytes w32 word ++ to_le_bytes w16 value)
