-- Long division by a shift register of eight bits: the register holds what must still be subtracted from the bits to come.
use Rattle.std.specs.Prelude.{◌≡◌, ℕ, ◌+◌, Bool, List, ◌++◌, length}
use Rattle.sii_words.specs.CheckByte.{bits_of_byte, minus, divided}

-- shifting these bits through takes the register from `before` to `after`: the division subtracts `before` from these bits and
-- those after them, and goes on with `after` subtracted from those after them
abbrev pub ShiftsThrough : List Bool → ℕ → ℕ → Type 0
ShiftsThrough bits before after = (digits : ℕ) (rest : List Bool)
    → divided (length bits + digits) (minus (bits ++ rest) (bits_of_byte before)) ≡ divided digits (minus rest (bits_of_byte after))
