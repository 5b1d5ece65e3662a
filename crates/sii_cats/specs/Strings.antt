-- STRINGS categories (type 10): a byte with the number of strings, and for each a length byte and its bytes.
use Rattle.std.specs.Prelude.{◌≡◌, ℕ, List, [], ◌∷◌, ◌++◌, ◌<◌, All, length, map}
use Rattle.std.specs.Global.{Vec}
use Rattle.std.specs.List.{flat_map}

-- strings of the running code as lists of bytes
abbrev pub texts : List (Vec ℕ) → List (List ℕ)
texts strings = map (λ string. string.items) strings

-- the bytes of a string: its length, and the string
abbrev pub string_bytes : List ℕ → List ℕ
string_bytes string = length string ∷ string

-- The bytes are the number of strings, and these strings; bytes after the last string are ignored, and no bytes are no
-- strings.
abbrev pub AreStrings : List ℕ → List (List ℕ) → Type 0
AreStrings [] strings = strings ≡ []
AreStrings (count ∷ bytes) strings = (count ≡ length strings) × (rest : List ℕ) × (bytes ≡ flat_map string_bytes strings ++ rest)

-- strings can be written if their number, and the length of each, fit one byte
pub record AreWritable (strings : List (List ℕ)) : Type 0 where
  pub few : length strings < 256
  pub short : All (λ string. length string < 256) strings

-- the bytes of a STRINGS category with these strings
abbrev pub all_bytes : List (List ℕ) → List ℕ
all_bytes strings = length strings ∷ flat_map string_bytes strings
