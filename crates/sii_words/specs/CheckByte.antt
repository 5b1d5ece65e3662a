-- The check byte of an EEPROM (ETG.1000.6): the remainder of words 0 to 6 in a division by x^8 + x^2 + x + 1, with the initial
-- value 0xFF. The bytes come in file order, the most significant bit of each first. The division works on lists of bits.
use Rattle.std.specs.Prelude.{◌≡◌, ℕ, zero, suc, ◌+◌, ◌*◌, ◌/◌, ◌%◌, ◌^◌, ◌==◌, Bool, true, false, not, List, [], ◌∷◌, ◌++◌, map, fold, take, slice_index, if◌then◌else◌}
use Rattle.std.specs.List.{flat_map}
use Rattle.sii_words.specs.Words.{bytes_of}

-- the bits of a byte, the most significant first
abbrev pub bits_of_byte : ℕ → List Bool
bits_of_byte byte = map (λ place. byte / 2 ^ place % 2 == 1) (7 ∷ 6 ∷ 5 ∷ 4 ∷ 3 ∷ 2 ∷ 1 ∷ 0 ∷ [])

-- the number that bits spell, the most significant first
abbrev pub number_of : List Bool → ℕ
number_of bits = fold (λ number bit. 2 * number + (if bit then 1 else 0)) 0 bits

-- subtraction without borrows (exclusive or) at the front of the bits
unfoldable pub minus : List Bool → List Bool → List Bool
minus bits [] = bits
minus [] (d ∷ ds) = []
minus (true ∷ bits) (d ∷ ds) = not d ∷ minus bits ds
minus (false ∷ bits) (d ∷ ds) = d ∷ minus bits ds

-- the divisor 100000111 without its leading one
abbrev pub divisor : List Bool
divisor = false ∷ false ∷ false ∷ false ∷ false ∷ true ∷ true ∷ true ∷ []

-- What is left of the bits after this many steps of long division. A leading one gives the quotient digit 1, and the divisor is
-- subtracted; a leading zero gives the digit 0.
unfoldable pub divided : ℕ → List Bool → List Bool
divided zero bits = bits
divided (suc digits) [] = []
divided (suc digits) (true ∷ bits) = divided digits (minus bits divisor)
divided (suc digits) (false ∷ bits) = divided digits bits

-- the bits with the first eight complemented, which is the initial value 0xFF
abbrev pub complemented : List Bool → List Bool
complemented bits = minus bits (bits_of_byte 255)

-- the 112 bits of words 0 to 6 and eight zeros after them, with the first eight bits complemented
unfoldable pub dividend : List ℕ → List Bool
dividend words = complemented (flat_map bits_of_byte (bytes_of (take 7 words)) ++ bits_of_byte 0)

-- the check byte: the remainder of eight bits after the 112 steps of the division
unfoldable pub check_byte_of : List ℕ → ℕ
check_byte_of words = number_of (divided 112 (dividend words))

-- the low byte of word 7 is the check byte; the high byte isn't judged
abbrev pub IsChecked : List ℕ → Type 0
IsChecked words = slice_index words 7 % 256 ≡ check_byte_of words
