-- STRINGS categories as they are read, one string after the other.
use Rattle.std.specs.Prelude.{ℕ, List, [], ◌∷◌, length, take, drop, Result, Ok, Err, nat_lt, if◌then◌else◌}
use Rattle.sii_cats.specs.Bytes.{bytes_of}
use Rattle.sii_cats.specs.steps.Items.{counted, ◌>>=◌}

-- the string in front and what is left behind it, or what is left where none can be read
abbrev pub string_at : List ℕ → Result (List ℕ × List ℕ) (List ℕ)
string_at [] = Err []
string_at (count ∷ bytes) = if nat_lt (length bytes) count then Err (count ∷ bytes) else Ok (take count bytes, drop count bytes)

-- the strings that the bytes of a content spell
abbrev pub strings_in : List ℕ → Result (List (List ℕ)) (List ℕ)
strings_in [] = Ok []
strings_in (count ∷ bytes) = counted string_at count bytes >>= λ read. Ok read.0

-- the strings of a content
abbrev pub strings_of : List ℕ → Result (List (List ℕ)) (List ℕ)
strings_of words = strings_in (bytes_of words)
