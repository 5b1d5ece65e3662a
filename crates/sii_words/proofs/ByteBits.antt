-- The bits of a byte, of its double, and of the exclusive or of two bytes.
use Rattle.std.proofs.Common.{◌≡◌, ℕ, zero, suc, ◌+◌, ◌*◌, ◌/◌, ◌%◌, ◌^◌, ◌==◌, ◌<◌, bit_xor, Bool, true, false, List, [], ◌∷◌, ◌++◌, map, refl, arith}
use Rattle.std.proofs.lemmas.Nat.Bits.{bit_at_xor}
use Rattle.std.proofs.lemmas.Bool.{agree_below_at, eqb-true}
use Rattle.sii_words.specs.CheckByte.{bits_of_byte, number_of, minus}

-- the bits of a number at these places
abbrev bits_at : List ℕ → ℕ → List Bool
bits_at places n = map (λ place. n / 2 ^ place % 2 == 1) places

minus_bit : (a b : ℕ) (bits less : List Bool) → a < 2 → b < 2 → minus ((a == 1) ∷ bits) ((b == 1) ∷ less) ≡ ((a + b) % 2 == 1) ∷ minus bits less
unfolding minus
minus_bit zero zero bits less p q = refl
minus_bit zero (suc zero) bits less p q = refl
minus_bit (suc zero) zero bits less p q = refl
minus_bit (suc zero) (suc zero) bits less p q = refl
minus_bit (suc (suc a)) b bits less p q = absurd (omega arith)
minus_bit a (suc (suc b)) bits less p q = absurd (omega arith)

bits_at-xor : (places : List ℕ) (a b : ℕ) → bits_at places (bit_xor a b) ≡ minus (bits_at places a) (bits_at places b)
unfolding minus
bits_at-xor [] a b = refl
bits_at-xor (place ∷ places) a b =
    let here = minus_bit (a / 2 ^ place % 2) (b / 2 ^ place % 2) (bits_at places a) (bits_at places b) (omega arith) (omega arith) in
    rw (here, bit_at_xor a b place, bits_at-xor places a b) refl

pub bits_of-xor : (a b : ℕ) → bits_of_byte (bit_xor a b) ≡ minus (bits_of_byte a) (bits_of_byte b)
bits_of-xor a b = bits_at-xor (7 ∷ 6 ∷ 5 ∷ 4 ∷ 3 ∷ 2 ∷ 1 ∷ 0 ∷ []) a b

-- the lowest seven bits
abbrev pub low_bits : ℕ → List Bool
low_bits n = bits_at (6 ∷ 5 ∷ 4 ∷ 3 ∷ 2 ∷ 1 ∷ 0 ∷ []) n

pub bits_of-small : (n : ℕ) → n < 128 → bits_of_byte n ≡ false ∷ low_bits n
bits_of-small n small =
    let top : n / 128 % 2 ≡ 0 = omega arith in
    rw top refl

pub bits_of-large : (n : ℕ) → n < 128 → bits_of_byte (n + 128) ≡ true ∷ low_bits n
bits_of-large n small =
    let b7 : (n + 128) / 128 % 2 ≡ 1 = omega arith in
    let b6 : (n + 128) / 64 % 2 ≡ n / 64 % 2 = omega arith in
    let b5 : (n + 128) / 32 % 2 ≡ n / 32 % 2 = omega arith in
    let b4 : (n + 128) / 16 % 2 ≡ n / 16 % 2 = omega arith in
    let b3 : (n + 128) / 8 % 2 ≡ n / 8 % 2 = omega arith in
    let b2 : (n + 128) / 4 % 2 ≡ n / 4 % 2 = omega arith in
    let b1 : (n + 128) / 2 % 2 ≡ n / 2 % 2 = omega arith in
    let b0 : (n + 128) / 1 % 2 ≡ n / 1 % 2 = omega arith in
    rw (b7, b6, b5, b4, b3, b2, b1, b0) refl

pub bits_of-double : (n : ℕ) → n < 128 → bits_of_byte (n * 2) ≡ low_bits n ++ false ∷ []
bits_of-double n small =
    let b7 : n * 2 / 128 % 2 ≡ n / 64 % 2 = omega arith in
    let b6 : n * 2 / 64 % 2 ≡ n / 32 % 2 = omega arith in
    let b5 : n * 2 / 32 % 2 ≡ n / 16 % 2 = omega arith in
    let b4 : n * 2 / 16 % 2 ≡ n / 8 % 2 = omega arith in
    let b3 : n * 2 / 8 % 2 ≡ n / 4 % 2 = omega arith in
    let b2 : n * 2 / 4 % 2 ≡ n / 2 % 2 = omega arith in
    let b1 : n * 2 / 2 % 2 ≡ n / 1 % 2 = omega arith in
    let b0 : n * 2 / 1 % 2 ≡ 0 = omega arith in
    rw (b7, b6, b5, b4, b3, b2, b1, b0) refl

-- a byte is the number that its bits spell: a table of all bytes
pub number_of-bits : (byte : ℕ) → byte < 256 → number_of (bits_of_byte byte) ≡ byte
number_of-bits byte small = eqb-true (number_of (bits_of_byte byte)) byte (agree_below_at (λ n. number_of (bits_of_byte n) == n) (λ n. true) 256 byte refl small)
