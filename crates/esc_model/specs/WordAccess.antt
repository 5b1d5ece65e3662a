-- The EEPROM half of a slave while its words are read and written (ETG.1000.4, slave information interface).
use Rattle.std.specs.Prelude.{◌≡◌, ◌⊎◌, ℕ, ◌<◌, length, false, ◌||◌, None, IsTrue}
use Rattle.ecat_frame.specs.Frame.{Pdu}
use Rattle.esc_model.specs.SlaveHalf.{SlaveHalf, Idle, Writing, in_flight, MayRest, MayLeave, settled, with_errors}
use Rattle.esc_model.specs.Datagrams.{served_datagram}
use Rattle.esc_model.specs.Orders.{station, write_order}

-- The half has the station address of this slave.
abbrev pub IsAt : (slave : ℕ) → SlaveHalf → Type 0
IsAt slave half = half.station ≡ station slave

-- The half is idle.
abbrev pub IsIdle : SlaveHalf → Type 0
IsIdle half = half.activity ≡ Idle

-- Bit 13 or 14 is set.
abbrev pub HasError : SlaveHalf → Type 0
HasError half = IsTrue (half.registers.command_error || half.registers.enable_error)

-- The half is idle, and bits 13 and 14 are clear.
pub record IsWell (half : SlaveHalf) : Type 0 where
  pub idle : IsIdle half
  pub command_error : half.registers.command_error ≡ false
  pub enable_error : half.registers.enable_error ≡ false

-- To the words of the half nothing happened but that it may have become idle: words and word in flight are the same, or nothing is in
-- flight any more and a power cut could have left these words.
pub record OnlyRests (half later : SlaveHalf) : Type 0 where
  pub station : later.station ≡ half.station
  pub words : ((later.words ≡ half.words) × (in_flight later.activity ≡ in_flight half.activity))
      ⊎ ((in_flight later.activity ≡ None) × MayLeave half later.words)

-- The datagram puts no word in flight, whichever half takes it.
abbrev pub IsGentle : Pdu → Type 0
IsGentle order = (half : SlaveHalf) → OnlyRests half (served_datagram half order).half

-- This word is in flight with this new value; or the half is idle with an error, as it is if it refused the word.
abbrev pub IsWritingOrInError : (word value : ℕ) → SlaveHalf → Type 0
IsWritingOrInError word value half =
    ((half.activity ≡ Writing word value) × (word < length half.words)) ⊎ (IsIdle half × HasError half)

-- The half took the command to write this word: it was idle, or became idle, and added 1 to the working counter. Then the word is in
-- flight, or the half refused it with bit 13 or 14.
pub record TakesWord (slave word value : ℕ) (half later : SlaveHalf) : Type 0 where
  pub rested : SlaveHalf
  pub rests : MayRest half rested
  pub idle : IsIdle rested
  pub counted : (served_datagram rested (write_order slave word value)).added ≡ 1
  pub is : later ≡ (served_datagram rested (write_order slave word value)).half
  pub station : later.station ≡ half.station
  pub words : later.words ≡ rested.words
  pub writes : IsWritingOrInError word value later

-- The write ended well: the word holds its new value, and nothing is in flight.
pub record IsWritten (word value : ℕ) (half later : SlaveHalf) : Type 0 where
  pub inside : word < length half.words
  pub settled : later ≡ with_errors (settled half word value) false false
