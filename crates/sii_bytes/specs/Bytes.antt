-- Images as bytes.
use Rattle.std.specs.Prelude.{◌≡◌, ◌⊎◌, ℕ, ◌+◌, ◌*◌, ◌/◌, ◌%◌, List, [], ◌∷◌, length, Result, Ok, Err}

-- the words that bytes spell, each with its low byte first; a single byte at the end is left out
abbrev pub words_in : List ℕ → List ℕ
words_in [] = []
words_in (low ∷ []) = []
words_in (low ∷ high ∷ bytes) = (low + 256 * high) ∷ words_in bytes

-- the bytes are whole words, and so many as `Size` allows
abbrev pub AreWords : (ℕ → Type 0) → List ℕ → Type 0
AreWords Size bytes = (length bytes % 2 ≡ 0) × Size (length bytes / 2)

-- why bytes aren't read as words: 1, their number is odd; 2, `Size` doesn't allow so many words; or 20, memory was refused
abbrev pub AreRefused : (ℕ → Type 0) → List ℕ → ℕ → Type 0
AreRefused Size bytes code =
    ((code ≡ 1) × (length bytes % 2 ≡ 1))
    ⊎ (((code ≡ 2) × (length bytes % 2 ≡ 0) × ¬ Size (length bytes / 2)) ⊎ (code ≡ 20))

-- the bytes are read as their words, or refused with a code
abbrev pub Reads : (ℕ → Type 0) → List ℕ → Result (List ℕ) ℕ → Type 0
Reads Size bytes (Ok words) = AreWords Size bytes × (words ≡ words_in bytes)
Reads Size bytes (Err code) = AreRefused Size bytes code

-- What a call on an image answers. The code is 0 where it is done; else the bytes are refused, or their words are, and nothing was changed.
pub data Answers (Size : ℕ → Type 0) (bytes : List ℕ) (code : ℕ) (Done Refused : List ℕ → Type 0) (Unchanged : Type 0) : Type 0 where
  done : code ≡ 0 → AreWords Size bytes → Done (words_in bytes) → Answers Size bytes code Done Refused Unchanged
  bytes_refused : AreRefused Size bytes code → Unchanged → Answers Size bytes code Done Refused Unchanged
  words_refused : AreWords Size bytes → Refused (words_in bytes) → Unchanged → Answers Size bytes code Done Refused Unchanged
