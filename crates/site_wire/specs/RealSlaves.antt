-- Real slaves, by what was sent to them and what came back (ETG.1000.4, slave information interface).
use Rattle.std.specs.Prelude.{◌≡◌, ◌≢◌, List, [], ◌∷◌, Some, None}
use Rattle.ecat_frame.specs.Frame.{Pdu}
use Rattle.esc_model.specs.Bytes.{station_of, register_of}
use Rattle.esc_model.specs.Registers.{Registers}
use Rattle.esc_model.specs.SlaveHalf.{SlaveHalf, MayHold, MayRest}
use Rattle.esc_model.specs.Datagrams.{served_datagram, reply_of}
use Rattle.site_wire.specs.Answers.{AnswersAlike}
use Rattle.site_wire.specs.Sent.{Exchanged, exchanged}

-- ONE DATAGRAM

-- The registers are the same in what no command rewrites that a station sends, and in the errors: bits 0 and 1 of 0x0500, and bits 13 and 14
-- of control and status. Of control and status bits 0 to 12 are the controller's own: bit 0 is write enable, 5 to 7 say what it can do, 8
-- to 10 are the command, and 11 and 12 tell of loading. The number of the word and the data are what the last command left there.
pub record SameRegisters (registers others : Registers) : Type 0 where
  pub offered : others.offered ≡ registers.offered
  pub forced : others.forced ≡ registers.forced
  pub command_error : others.command_error ≡ registers.command_error
  pub enable_error : others.enable_error ≡ registers.enable_error

-- The other half is the same but for what is the controller's own, for what each command rewrites, and for the value of a word in flight.
pub record IsLike (half other : SlaveHalf) : Type 0 where
  pub station : other.station ≡ half.station
  pub activity : other.activity ≡ half.activity
  pub registers : SameRegisters half.registers other.registers
  pub words : MayHold half.activity half.words other.words

-- The real slave takes the datagram as the definition says, perhaps after it became idle, up to what is the controller's own; and this
-- comes back.
pub record Takes (d : Pdu) (real : SlaveHalf) (found : Pdu) (later : SlaveHalf) : Type 0 where
  pub rested : SlaveHalf
  pub rests : MayRest real rested
  pub half : IsLike (served_datagram rested d).half later
  pub answer : AnswersAlike (reply_of d (served_datagram rested d)) found

-- The real slave takes the datagram as it is defined, up to what is the controller's own. The first two words of data are what was written there
-- or read from the EEPROM, and a read of them shows them.
pub record Serves (d : Pdu) (real : SlaveHalf) (found : Pdu) (later : SlaveHalf) : Type 0 where
  pub takes : Takes d real found later
  pub first : later.registers.first ≡ (served_datagram takes.rested d).half.registers.first
  pub second : later.registers.second ≡ (served_datagram takes.rested d).half.registers.second
  pub shows : d.command ≡ 4 → register_of d.address ≡ 0x0508 → found.content ≡ (served_datagram takes.rested d).content

-- The slave of the definition is such a slave: it takes the datagram, and its own answer comes back.
abbrev pub DefinedServes : Type 0
DefinedServes = (d : Pdu) (half : SlaveHalf) → Serves d half (reply_of d (served_datagram half d)) (served_datagram half d).half

-- It does so any number of times, and none of the answers comes back.
pub data Servings (d : Pdu) (real : SlaveHalf) : (later : SlaveHalf) → Type 0 where
  none : Servings d real real
  more : (mid later : SlaveHalf) (lost : Pdu) → Servings d real mid → Serves d mid lost later → Servings d real later

-- It does so once or more, and one of the answers comes back, which need not be the last one.
pub record Answered (d : Pdu) (real : SlaveHalf) (found : Pdu) (later : SlaveHalf) : Type 0 where
  pub mid : SlaveHalf
  pub after : SlaveHalf
  pub before : Servings d real mid
  pub reported : Serves d mid found after
  pub afterwards : Servings d after later

-- The real slave could have answered so to what was sent on its line, and is this then: of what went to its station each datagram that
-- came back was taken, and any other may have been.
pub data Lives : List Exchanged → (real later : SlaveHalf) → Type 0 where
  ends : (real : SlaveHalf) → Lives [] real real
  answers : (call : Exchanged) (log : List Exchanged) (found : Pdu) (real mid later : SlaveHalf) → station_of call.sent.address ≡ real.station
      → call.answer ≡ Some found → Answered call.sent real found mid → Lives log mid later → Lives (call ∷ log) real later
  is_silent : (call : Exchanged) (log : List Exchanged) (real mid later : SlaveHalf) → station_of call.sent.address ≡ real.station
      → call.answer ≡ None → Servings call.sent real mid → Lives log mid later → Lives (call ∷ log) real later
  of_another : (call : Exchanged) (log : List Exchanged) (real later : SlaveHalf) → station_of call.sent.address ≢ real.station
      → Lives log real later → Lives (call ∷ log) real later

-- This part of it was sent so far: the last datagram may be under way, and what comes back of it isn't known yet.
pub data IsSoFar : (all part : List Exchanged) → Type 0 where
  nothing : (all : List Exchanged) → IsSoFar all []
  under_way : (call : Exchanged) (all : List Exchanged) → IsSoFar (call ∷ all) (exchanged call.sent None ∷ [])
  and_more : (call : Exchanged) (all part : List Exchanged) → IsSoFar all part → IsSoFar (call ∷ all) (call ∷ part)
