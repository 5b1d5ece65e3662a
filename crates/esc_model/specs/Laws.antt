-- Laws that hold for the EEPROM half of every slave.
use Rattle.std.specs.Prelude.{◌≡◌, ℕ, ◌^◌, ◌<◌, false, List, length, slice_set}
use Rattle.esc_model.specs.SlaveHalf.{SlaveHalf, Writing, MayRest, MayLeave, MayStop}
use Rattle.esc_model.specs.Datagrams.{served_datagram}
use Rattle.esc_model.specs.Orders.{write_order}
use Rattle.esc_model.specs.WordAccess.{IsAt, IsIdle, IsWell, TakesWord}

-- Becoming idle adds nothing to what a power cut may leave.
abbrev pub RestAddsNothing : Type 0
RestAddsNothing = (half later : SlaveHalf) (left : List ℕ) → MayRest half later → MayLeave later left → MayLeave half left

-- Becoming idle twice in a row is the same as once.
abbrev pub RestsOnce : Type 0
RestsOnce = (half mid later : SlaveHalf) → MayRest half mid → MayRest mid later → MayRest half later

-- A power cut adds nothing to what a later one may leave.
abbrev pub StopAddsNothing : Type 0
StopAddsNothing = (half later : SlaveHalf) (left : List ℕ) → MayStop half later → MayLeave later left → MayLeave half left

-- Of an idle half a power cut leaves exactly its words.
abbrev pub IdleLeavesWords : Type 0
IdleLeavesWords = (half : SlaveHalf) (left : List ℕ) → IsIdle half → MayLeave half left → left ≡ half.words

-- The half begins to write this word. Its words are unchanged so far.
pub record BeginsWord (word value : ℕ) (half later : SlaveHalf) : Type 0 where
  pub activity : later.activity ≡ Writing word value
  pub words : later.words ≡ half.words
  pub station : later.station ≡ half.station

-- A half at the addressed station that is idle and not offered to the PDI takes the command to write a word of its device: it begins
-- to write, and adds 1 to the working counter.
abbrev pub IssueBegins : Type 0
IssueBegins = (slave word value : ℕ) (half : SlaveHalf) → slave < 64 → word < 2 ^ 16 → value < 2 ^ 16
    → IsAt slave half → IsIdle half → half.registers.offered ≡ false → word < length half.words
    → BeginsWord word value half (served_datagram half (write_order slave word value)).half
    × ((served_datagram half (write_order slave word value)).added ≡ 1)

-- If a half took a word, and is then idle without an error, a power cut leaves exactly the words that it had, with this value in that
-- word.
abbrev pub TakenThenWell : Type 0
TakenThenWell = (slave word value : ℕ) (half mid later : SlaveHalf) (left : List ℕ) (takes : TakesWord slave word value half mid)
    → MayRest mid later → IsWell later → MayLeave later left
    → (word < length takes.rested.words) × (left ≡ slice_set takes.rested.words word value)
