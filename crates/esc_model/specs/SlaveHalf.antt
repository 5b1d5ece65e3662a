-- The EEPROM half of a slave (ETG.1000.4, slave information interface): its words, its registers, and what it is doing. A datagram is
-- taken as a whole. A busy half may become idle at any time.
use Rattle.std.specs.Prelude.{◌≡◌, ℕ, ◌+◌, ◌-◌, ◌%◌, ◌⊎◌, List, length, Bool, true, false, not, ◌&&◌, ◌||◌, ◌==◌, nat_lt, nat_le, slice_index, slice_set, slice_range, if◌then◌else◌, Option, Some, None, IsTrue}
use Rattle.sii_words.specs.CheckByte.{check_byte_of}
use Rattle.ecat_frame.specs.declared.Command.{Command}
use Rattle.ecat_frame.specs.declared.Command.TheVariants.{Fprd, Fpwr, Lrw, Other}
use Rattle.esc_model.specs.Bytes.{overlaid, lies_in, station_of, register_of}
use Rattle.esc_model.specs.Registers.{Registers, register_bytes, stored, cleared}
use Rattle.esc_model.specs.declared.rest.WordWrite.{WordWrite}
use Rattle.esc_model.specs.declared.rest.Rest.{Rest}
use Rattle.esc_model.specs.declared.rest.Rest.TheVariants.{Well, Failed, Torn}

-- what a half is doing; a word that is being written is called in flight
pub data Activity : Type 0 where
  Idle : Activity
  Reading : Activity
  Writing : (word value : ℕ) → Activity

-- the words, the registers, the station address, and what the half is doing
pub record SlaveHalf : Type 0 where
  pub words : List ℕ
  pub registers : Registers
  pub station : ℕ
  pub activity : Activity

-- A half is busy while it reads or writes.
abbrev pub is_busy : Activity → Bool
is_busy Idle = false
is_busy Reading = true
is_busy (Writing word value) = true

-- the word in flight, with its new value
abbrev pub in_flight : Activity → Option WordWrite
in_flight Idle = None
in_flight Reading = None
in_flight (Writing word value) = Some (record { word = word; value = value })

-- At power-up a half is idle, and its registers are 0, except that bits 11 and 12 are set if the check byte is wrong.
abbrev pub powered_up : List ℕ → ℕ → SlaveHalf
powered_up words station = record {
  words = words;
  registers = cleared (not (slice_index words 7 % 256 == check_byte_of words));
  station = station;
  activity = Idle;
}

-- TAKING A DATAGRAM

-- the half after a datagram, the datagram's content, and what was added to its working counter
pub record Outcome : Type 0 where
  pub half : SlaveHalf
  pub content : List ℕ
  pub added : ℕ

-- a datagram that changes nothing, and is not counted
abbrev pub passed_on : SlaveHalf → List ℕ → Outcome
passed_on half content = record { half = half; content = content; added = 0 }

-- The datagram is for this station, and lies wholly in its EEPROM registers.
abbrev pub concerns : SlaveHalf → ℕ → ℕ → Bool
concerns half address count = station_of address == half.station && lies_in 0x0500 0x0510 (register_of address) count

-- the registers as a read shows them
abbrev pub shown_bytes : SlaveHalf → List ℕ
shown_bytes half = register_bytes half.registers (is_busy half.activity)

-- A read returns the registers, and is counted.
abbrev pub replied : SlaveHalf → ℕ → List ℕ → Outcome
replied half at content = record { half = half; content = slice_range (shown_bytes half) at (at + length content); added = 1 }

-- The command names a word that the device doesn't have. A read names two.
abbrev pub is_outside : SlaveHalf → Bool
is_outside half =
    (half.registers.command == 1 && nat_le (length half.words) (half.registers.address + 1))
    || (half.registers.command == 2 && nat_le (length half.words) half.registers.address)

-- Each command sets or clears bits 13 and 14 anew. Bit 13: the EEPROM is offered to the PDI, the command isn't one of 000, 001
-- and 010, or it names a word that the device doesn't have. Bit 14: it is a write without write enable.
abbrev pub with_command_errors : SlaveHalf → SlaveHalf
with_command_errors half = record half {
  registers = record half.registers {
    command_error = half.registers.offered || nat_lt 2 half.registers.command || is_outside half;
    enable_error = half.registers.command == 2 && half.registers.control % 2 == 0;
  };
}

-- The half begins to read: the two words from the address on are in its registers.
abbrev pub fetching : SlaveHalf → SlaveHalf
fetching half = record half {
  registers = record half.registers {
    first = slice_index half.words half.registers.address;
    second = slice_index half.words (half.registers.address + 1);
  };
  activity = Reading;
}

-- The half begins to write: the word at the address is in flight, with the first word of data as its new value.
abbrev pub writing : SlaveHalf → SlaveHalf
writing half = record half { activity = Writing half.registers.address half.registers.first }

-- A command without an error begins: 001 reads, 010 writes, 000 does nothing.
abbrev pub begun : SlaveHalf → SlaveHalf
begun half =
    if half.registers.command_error || half.registers.enable_error then half
    else if half.registers.command == 1 then fetching half
    else if half.registers.command == 2 then writing half
    else half

-- The content is stored in the registers from the byte `at` on.
abbrev pub with_stored : SlaveHalf → ℕ → List ℕ → SlaveHalf
with_stored half at content = record half { registers = stored half.registers (overlaid (shown_bytes half) at content) }

-- A write is stored. If it covers 0x0502 and 0x0503, its command is judged, and begins if it has no error.
abbrev pub after_write : SlaveHalf → ℕ → List ℕ → SlaveHalf
after_write half at content =
    if nat_le at 2 && nat_le 4 (at + length content) then begun (with_command_errors (with_stored half at content))
    else with_stored half at content

-- While the half is busy, a write that reaches into 0x0502 to 0x050F is ignored.
abbrev pub written : SlaveHalf → ℕ → List ℕ → Outcome
written half at content =
    if is_busy half.activity && nat_lt 2 (at + length content) then passed_on half content
    else record { half = after_write half at content; content = content; added = 1 }

-- The outcome if the half takes a datagram with this command, address and content in its current state: an FPRD reads the registers,
-- an FPWR writes them, and any other is passed on.
unfoldable pub served : SlaveHalf → Command → ℕ → List ℕ → Outcome
served half Fprd address content =
    if concerns half address (length content) then replied half (register_of address - 0x0500) content else passed_on half content
served half Fpwr address content =
    if concerns half address (length content) then written half (register_of address - 0x0500) content else passed_on half content
served half Lrw address content = passed_on half content
served half (Other code) address content = passed_on half content

-- BECOMING IDLE

-- the half, idle, with this value in the word that was in flight
abbrev pub settled : SlaveHalf → ℕ → ℕ → SlaveHalf
settled half word left = record half { words = slice_set half.words word left; activity = Idle }

-- the half with these values of bits 13 and 14
abbrev pub with_errors : SlaveHalf → Bool → Bool → SlaveHalf
with_errors half command_error enable_error =
    record half { registers = record half.registers { command_error = command_error; enable_error = enable_error } }

-- `rested` is `half`, but for bits 13 and 14, of which at least one is set.
pub record EndsInError (half rested : SlaveHalf) : Type 0 where
  pub error : IsTrue (rested.registers.command_error || rested.registers.enable_error)
  pub rested_is : rested ≡ with_errors half rested.registers.command_error rested.registers.enable_error

-- A write ends in error: the word may hold anything.
pub record WriteFails (half : SlaveHalf) (word : ℕ) (rested : SlaveHalf) : Type 0 where
  pub left : ℕ
  pub ends : EndsInError (settled half word left) rested

-- A busy half becomes idle: without an error, and then a word in flight holds its new value and bits 13 and 14 are clear; or with an
-- error.
abbrev pub MayEnd : Activity → SlaveHalf → SlaveHalf → Type 0
MayEnd Idle half rested = ⊥
MayEnd Reading half rested = (rested ≡ record half { activity = Idle }) ⊎ EndsInError (record half { activity = Idle }) rested
MayEnd (Writing word value) half rested = (rested ≡ with_errors (settled half word value) false false) ⊎ WriteFails half word rested

-- The half stays as it is, or it becomes idle if it is busy.
abbrev pub MayRest : SlaveHalf → SlaveHalf → Type 0
MayRest half later = (later ≡ half) ⊎ MayEnd half.activity half later

-- The half takes a datagram, perhaps after it became idle.
pub record Serves (half : SlaveHalf) (command : Command) (address : ℕ) (content : List ℕ) (outcome : Outcome) : Type 0 where
  pub mid : SlaveHalf
  pub rests : MayRest half mid
  pub takes : served mid command address content ≡ outcome

-- A POWER CUT

-- What a power cut may leave of these words: a word in flight may hold anything, and no other changes.
abbrev pub MayHold : Activity → List ℕ → List ℕ → Type 0
MayHold Idle words left = left ≡ words
MayHold Reading words left = left ≡ words
MayHold (Writing word value) words left = (held : ℕ) × (left ≡ slice_set words word held)

-- A power cut may leave these words of the half.
abbrev pub MayLeave : SlaveHalf → List ℕ → Type 0
MayLeave half left = MayHold half.activity half.words left

-- The word in flight is torn: it may hold anything, and the half is idle.
abbrev pub IsTorn : Activity → SlaveHalf → SlaveHalf → Type 0
IsTorn Idle half torn = ⊥
IsTorn Reading half torn = ⊥
IsTorn (Writing word value) half torn = (held : ℕ) × (torn ≡ settled half word held)

-- What a power cut may make of a half: its word in flight stays in flight, or is torn.
abbrev pub MayStop : SlaveHalf → SlaveHalf → Type 0
MayStop half later = (later ≡ half) ⊎ IsTorn half.activity half later

-- THE CALLS OF A HALF IN MEMORY

-- the half once its write has ended: well, with bit 13, or torn by a power cut
abbrev pub ended : Rest → SlaveHalf → ℕ → ℕ → SlaveHalf
ended Well half word value = with_errors (settled half word value) false false
ended (Failed left) half word value = with_errors (settled half word left) true half.registers.enable_error
ended (Torn left) half word value = settled half word left

-- the half once its write has ended in this way; without a write it stays as it is
abbrev pub rested_by : Activity → Rest → SlaveHalf → SlaveHalf
rested_by Idle rest half = half
rested_by Reading rest half = half
rested_by (Writing word value) rest half = ended rest half word value

-- the half once its read has ended, in error or not; without a read it stays as it is
abbrev pub reading_ended : Activity → (failed : Bool) → SlaveHalf → SlaveHalf
reading_ended Idle failed half = half
reading_ended Reading false half = record half { activity = Idle }
reading_ended Reading true half = with_errors (record half { activity = Idle }) true half.registers.enable_error
reading_ended (Writing word value) failed half = half

-- `Well` and `Failed` are ways to become idle, and `Torn` is what a power cut may do.
abbrev pub EndsAs : Rest → SlaveHalf → SlaveHalf → Type 0
EndsAs Well half later = MayRest half later
EndsAs (Failed left) half later = MayRest half later
EndsAs (Torn left) half later = MayStop half later
