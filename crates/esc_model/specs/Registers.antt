-- The registers 0x0500 to 0x050F, by which a slave's EEPROM is read and written (ETG.1000.4, slave information interface).
use Rattle.std.specs.Prelude.{ℕ, ◌+◌, ◌/◌, ◌%◌, ◌==◌, Bool, false, List, [], ◌∷◌, slice_index, if◌then◌else◌}
use Rattle.sii_words.specs.Words.{bytes_of}
use Rattle.esc_model.specs.Bytes.{word_at, double_word_at}

pub record Registers : Type 0 where
  -- bit 0 of 0x0500: the EEPROM is offered to the PDI
  pub offered : Bool
  -- bit 1 of 0x0500: ECAT access is forced
  pub forced : Bool
  -- 0x0502, the low byte of control and status: bit 0 is write enable
  pub control : ℕ
  -- bits 8 to 10 of control and status
  pub command : ℕ
  -- bits 11 and 12: checksum error at loading, and not loaded
  pub loading_error : Bool
  -- bit 13: error of the last command
  pub command_error : Bool
  -- bit 14: error of write enable
  pub enable_error : Bool
  -- 0x0504: the number of a word
  pub address : ℕ
  -- 0x0508 to 0x050F: four words of data
  pub first : ℕ
  pub second : ℕ
  pub third : ℕ
  pub fourth : ℕ

-- the byte at 0x0503: bits 8 to 10 are the command, 11 to 14 the errors, and bit 15 is set while the slave is busy
abbrev pub status_byte : Registers → Bool → ℕ
status_byte r busy =
    r.command % 8 + (if r.loading_error then 0x18 else 0) + (if r.command_error then 0x20 else 0)
    + (if r.enable_error then 0x40 else 0) + (if busy then 0x80 else 0)

-- the byte at 0x0500
abbrev pub access_byte : Registers → ℕ
access_byte r = (if r.offered then 1 else 0) + (if r.forced then 2 else 0)

-- the sixteen bytes as a read shows them
abbrev pub register_bytes : Registers → Bool → List ℕ
register_bytes r busy =
    access_byte r ∷ 0 ∷ r.control ∷ status_byte r busy
    ∷ bytes_of (r.address % 65536 ∷ r.address / 65536 ∷ r.first ∷ r.second ∷ r.third ∷ r.fourth ∷ [])

-- The registers after sixteen bytes were written to them: of 0x0500 they store bits 0 and 1, of 0x0501 nothing, of 0x0503 bits 0 to 2.
abbrev pub stored : Registers → List ℕ → Registers
stored r bytes = record r {
  offered = slice_index bytes 0 % 2 == 1;
  forced = slice_index bytes 0 / 2 % 2 == 1;
  control = slice_index bytes 2;
  command = slice_index bytes 3 % 8;
  address = double_word_at bytes 4;
  first = word_at bytes 8;
  second = word_at bytes 10;
  third = word_at bytes 12;
  fourth = word_at bytes 14;
}

-- the registers at power-up
abbrev pub cleared : Bool → Registers
cleared loading_error = record {
  offered = false;
  forced = false;
  control = 0;
  command = 0;
  loading_error = loading_error;
  command_error = false;
  enable_error = false;
  address = 0;
  first = 0;
  second = 0;
  third = 0;
  fourth = 0;
}
