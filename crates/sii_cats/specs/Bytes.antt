-- The content of a category is a list of words. Its bytes are the words, low byte first (ETG.1000.6, slave information
-- interface).
use Rattle.std.specs.Prelude.{ℕ, ◌+◌, ◌*◌, ◌/◌, ◌%◌, List, [], ◌∷◌}
pub use Rattle.sii_words.specs.Words.{bytes_of}

-- the two bytes of a number of 16 bits, low byte first
abbrev pub low_first : ℕ → List ℕ
low_first n = n % 256 ∷ n / 256 ∷ []

-- the number that a low and a high byte spell
abbrev pub number : ℕ → ℕ → ℕ
number low high = low + high * 256

-- bytes padded to whole words: a 0 stands behind an odd number of them
abbrev pub padded : List ℕ → List ℕ
padded [] = []
padded (low ∷ []) = low ∷ 0 ∷ []
padded (low ∷ high ∷ bytes) = low ∷ high ∷ padded bytes
