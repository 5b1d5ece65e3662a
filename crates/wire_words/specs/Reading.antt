-- Words of many slaves that are read side by side (ETG.1000.4). `Gives` is what is known of the bytes that the wire gives.
use Rattle.std.specs.Prelude.{◌≡◌, ◌⊎◌, ℕ, ◌/◌, ◌%◌, Bool, true, false, List, take, drop, Option, Some, None}
use Rattle.std.specs.List.{All}
use Rattle.wire_frames.specs.Came.{Answered}
use Rattle.wire_words.specs.Words.{PairCame, ShowsEight, read_command}
use Rattle.wire_words.specs.declared.ahead.Ahead.{Ahead}
use Rattle.wire_words.specs.declared.ahead.Retained.{Retained}
use Rattle.wire_words.specs.declared.reading.Read.{Read}
use Rattle.wire_words.specs.declared.reading.ReadSize.{ReadSize}
use Rattle.wire_words.specs.declared.reading.ReadSize.TheVariants as size
use Rattle.wire_words.specs.declared.reader.Phase.{Phase}
use Rattle.wire_words.specs.declared.reader.Phase.TheVariants as phase
use Rattle.wire_words.specs.declared.reader.Reader.{Reader}

-- how many bytes a fetch of this size has
abbrev pub bytes_loaded : ReadSize → ℕ
bytes_loaded size.Four = 4
bytes_loaded size.Eight = 8

-- the words in so many bytes from the front of these
abbrev pub read_of : ReadSize → List ℕ → Read
read_of size.Four bytes = record { pair = take 4 bytes; next = None }
read_of size.Eight bytes = record { pair = take 4 bytes; next = Some (drop 4 bytes) }

-- whether the slave has taken the command to read the words, and they aren't fetched yet
abbrev pub has_reported : Phase → Bool
has_reported phase.Tells = false
has_reported (phase.Polls bytes) = true
has_reported (phase.Fetches bytes) = true
has_reported phase.Settles = false
has_reported phase.Clears = false
has_reported phase.Ends = false

-- the most bytes of content that the next datagram of a reader has
abbrev pub most_asked : Phase → ℕ
most_asked (phase.Polls size.Eight) = 14
most_asked other = 10

-- The reader's slave has yet to be told to read.
abbrev pub NothingReported : Reader → Type 0
NothingReported reader = has_reported reader.phase ≡ false

-- A reader that polls or fetches has an answer of its slave to the command to read from its word on; one that fetches eight bytes has one that
-- shows that the slave loads so many.
pub record IsUnderWay (Gives : List ℕ → Type 0) (reader : Reader) : Type 0 where
  pub reported : has_reported reader.phase ≡ true → Answered Gives reader.station 5 0x0502 (read_command reader.word reader.held)
  pub eight : reader.phase ≡ phase.Fetches size.Eight → ShowsEight Gives reader.station

-- The second reader is at the same word of the same slave as the first one.
pub record StaysAt (before after : Reader) : Type 0 where
  pub station : after.station ≡ before.station
  pub word : after.word ≡ before.word

-- It is, and the first one saw this control and status. The second one polls or fetches only if that one does, with the same byte in the data
-- register, and fetches eight bytes only if that one does or bit 6 is set.
pub record GoesOn (status : ℕ) (before after : Reader) : Type 0 where
  pub stays : StaysAt before after
  pub reported : has_reported after.phase ≡ true → (has_reported before.phase ≡ true) × (after.held ≡ before.held)
  pub eight : after.phase ≡ phase.Fetches size.Eight → (before.phase ≡ phase.Fetches size.Eight) ⊎ ((status / 0x40) % 2 ≡ 1)

-- two words that were kept came over the wire
abbrev pub KeptCame : (Gives : List ℕ → Type 0) → Option Retained → Type 0
KeptCame Gives None = Unit {0}
KeptCame Gives (Some kept) = PairCame Gives kept.station kept.word kept.pair

-- all that were read ahead did
abbrev pub AllKept : (Gives : List ℕ → Type 0) → Ahead → Type 0
AllKept Gives ahead = All (KeptCame Gives) ahead.pairs.items
