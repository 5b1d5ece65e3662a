-- Words of slaves, as they came over a wire (ETG.1000.4). `Gives` is what is known of the bytes that the wire gives.
use Rattle.std.specs.Prelude.{◌≡◌, ◌≢◌, ◌⊎◌, ℕ, ◌+◌, ◌*◌, ◌/◌, ◌%◌, ◌<◌, List, [], ◌∷◌, ◌++◌, length, take, slice_index_or, IfSome}
use Rattle.std.specs.Int.{w16, w32, to_le_bytes}
use Rattle.std.specs.List.{All}
use Rattle.wire_frames.specs.Came.{Answered}
use Rattle.wire_words.specs.declared.reading.Read.{Read}

-- the content of the command to read words from this one on: control and status, the word's number, and four times the byte that stands in the
-- data register until it is loaded
abbrev pub read_command : (word held : ℕ) → List ℕ
read_command word held = to_le_bytes w16 0x0100 ++ to_le_bytes w32 word ++ held ∷ held ∷ held ∷ held ∷ []

-- None of these bytes is this one.
abbrev pub AreOther : (held : ℕ) → List ℕ → Type 0
AreOther held bytes = All (λ byte. byte ≢ held) bytes

-- The slave showed that a read command loads eight bytes: bit 6 of control and status (0x0502), perhaps with registers after it.
pub record ShowsEight (Gives : List ℕ → Type 0) (from : ℕ) : Type 0 where
  pub status : ℕ
  pub rest : List ℕ
  pub shown : Answered Gives from 4 0x0502 (to_le_bytes w16 status ++ rest)
  pub bit : (status / 0x40) % 2 ≡ 1

-- The slave answered a read of the data register (0x0508) with these bytes; or one of control and status, the word's number and the data register
-- (0x0502) with six bytes and these.
pub data DataRead (Gives : List ℕ → Type 0) (from : ℕ) (bytes : List ℕ) : Type 0 where
  alone : Answered Gives from 4 0x0508 bytes → DataRead Gives from bytes
  polled : (front : List ℕ) → length front ≡ 6 → Answered Gives from 4 0x0502 (front ++ bytes) → DataRead Gives from bytes

-- The slave took the command to read words from this one on, and it answered a read of the data register with these bytes: four, or eight if it
-- showed that it loads so many. None of the first four is the byte that the command put there.
pub record ReadCame (Gives : List ℕ → Type 0) (from word : ℕ) (bytes : List ℕ) : Type 0 where
  pub held : ℕ
  pub taken : Answered Gives from 5 0x0502 (read_command word held)
  pub read : DataRead Gives from bytes
  pub loaded : AreOther held (take 4 bytes)
  pub size : (length bytes ≡ 4) ⊎ ((length bytes ≡ 8) × ShowsEight Gives from)

-- The four bytes of this word and the next one stand in what the slave answered to a read from the word `start` on, at their place: two bytes
-- a word.
pub record PairCame (Gives : List ℕ → Type 0) (from word : ℕ) (pair : List ℕ) : Type 0 where
  pub start : ℕ
  pub before : List ℕ
  pub after : List ℕ
  pub came : ReadCame Gives from start (before ++ pair ++ after)
  pub place : 2 * start + length before ≡ 2 * word
  pub four : length pair ≡ 4

-- the same of the words of a read: two, or four
pub record WordsRead (Gives : List ℕ → Type 0) (from word : ℕ) (read : Read) : Type 0 where
  pub first : PairCame Gives from word read.pair
  pub others : IfSome read.next (PairCame Gives from (word + 2))

-- the same of a slave's first 64 words, in pairs
abbrev pub BlockCame : (Gives : List ℕ → Type 0) → (from : ℕ) → List (List ℕ) → Type 0
BlockCame Gives from block = (k : ℕ) → k < 32 → PairCame Gives from (2 * k) (slice_index_or block k [])
