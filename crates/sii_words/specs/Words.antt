-- The contents of an EEPROM are a list of 16-bit words, numbered from 0 (ETG.1000.6, slave information interface).
use Rattle.std.specs.Prelude.{◌≡◌, ℕ, ◌+◌, ◌*◌, ◌/◌, ◌%◌, ◌≤◌, List, [], ◌∷◌, slice_index}

-- the EEPROM of a device has 64 to 4,096 words, a multiple of 64
abbrev pub IsDeviceSize : ℕ → Type 0
IsDeviceSize n = (64 ≤ n) × (n ≤ 4096) × (n % 64 ≡ 0)

-- an image file has 64 to 4,096 words
abbrev pub IsImageSize : ℕ → Type 0
IsImageSize n = (64 ≤ n) × (n ≤ 4096)

-- a file holds the words in order, each with its low byte first
abbrev pub bytes_of : List ℕ → List ℕ
bytes_of [] = []
bytes_of (word ∷ words) = word % 256 ∷ word / 256 ∷ bytes_of words

-- the configured station alias is word 4
abbrev pub alias_of : List ℕ → ℕ
alias_of words = slice_index words 4

-- a number of 32 bits is two words, the low one first
abbrev pub double_word : List ℕ → ℕ → ℕ
double_word words at = slice_index words at + 65536 * slice_index words (at + 1)
