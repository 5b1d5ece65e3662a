-- How a shift register of eight bits takes one bit, one byte and a list of bytes.
use Rattle.std.proofs.Common.{◌≡◌, ℕ, ◌+◌, ◌-◌, ◌*◌, ◌/◌, ◌%◌, ◌<◌, ◌≤◌, bit_xor, false, List, [], ◌∷◌, ◌++◌, length, replicate, get_or, take, flat_map, Fits, w16, refl, ap, sym, ◌∙◌, arith}
use Rattle.std.proofs.lemmas.Nat.{xor_comm}
use Rattle.std.proofs.lemmas.Grind.{flat_map-append}
use Rattle.std.proofs.lemmas.List.{length-take, replicate_more}
use Rattle.sii_words.specs.Words.{bytes_of}
use Rattle.sii_words.specs.CheckByte.{bits_of_byte, minus, divided, dividend, check_byte_of}
use Rattle.sii_words.specs.steps.ShiftRegister.{ShiftsThrough}
use Rattle.sii_words.proofs.WordBytes.{length-bytes_of, bytes_of-more}
use Rattle.sii_words.proofs.LongDivision.{minus-twice, digit_zero, digit_one, shifts_on}
use Rattle.sii_words.proofs.ByteBits.{low_bits, bits_of-xor, bits_of-small, bits_of-large, bits_of-double, number_of-bits}

pub shifts_zero : (register : ℕ) → register < 128 → ShiftsThrough (false ∷ []) register (register * 2)
shifts_zero register small digits rest =
    rw (bits_of-small register small, bits_of-double register small) (digit_zero digits rest (low_bits register))

pub shifts_one : (register : ℕ) → 128 ≤ register → register < 256 → ShiftsThrough (false ∷ []) register (bit_xor ((register - 128) * 2) 7)
shifts_one register large small digits rest =
    let low : register - 128 < 128 = omega arith in
    let top : register ≡ register - 128 + 128 = omega arith in
    let bits : bits_of_byte register ≡ bits_of_byte (register - 128 + 128) = ap (λ (n : ℕ). bits_of_byte n) top in
    rw (bits, bits_of-large (register - 128) low, bits_of-xor ((register - 128) * 2) 7, bits_of-double (register - 128) low)
    (digit_one digits rest (low_bits (register - 128)) refl)

-- a byte goes through as eight zeros do, once it is taken into the register
pub shifts_byte : (byte before after count : ℕ) → count ≡ 8 → ShiftsThrough (replicate count false) (bit_xor before byte) after → ShiftsThrough (bits_of_byte byte) before after
unfolding minus
shifts_byte byte before after count eight shifts digits rest =
    let zeros = rw eight at (shifts digits rest) in
    let taken : minus (bits_of_byte byte ++ rest) (bits_of_byte before) ≡ minus (replicate 8 false ++ rest) (minus (bits_of_byte byte) (bits_of_byte before))
    = minus-twice (replicate 8 false ++ rest) (bits_of_byte byte) (bits_of_byte before) refl in
    rw (taken, ← bits_of-xor byte before, xor_comm byte before) zeros

pub shifts_none : (register : ℕ) → ShiftsThrough [] register register
shifts_none register digits rest =
    let count : 0 + digits ≡ digits = omega arith in
    rw count refl

-- one zero more
pub shifts_next : (zeros before between after : ℕ) → ShiftsThrough (replicate zeros false) before between → ShiftsThrough (false ∷ []) between after
    → ShiftsThrough (replicate (zeros + 1) false) before after
shifts_next zeros before between after first next =
    rw (← replicate_more zeros false) (shifts_on (replicate zeros false) (false ∷ []) before between after first next)

-- one word more
pub shifts_word : (words pair : List ℕ) (at before first second after : ℕ) → at < length words → Fits w16 (get_or words at 0)
    → pair ≡ get_or words at 0 % 256 ∷ get_or words at 0 / 256 % 256 ∷ []
    → ShiftsThrough (flat_map bits_of_byte (bytes_of (take at words))) before first
    → ShiftsThrough (bits_of_byte (get_or pair 0 0)) first second → ShiftsThrough (bits_of_byte (get_or pair 1 0)) second after
    → ShiftsThrough (flat_map bits_of_byte (bytes_of (take (at + 1) words))) before after
shifts_word words pair at before first second after within fits spelt sofar lower higher =
    let bytes = bytes_of (take at words) in
    let low = get_or words at 0 % 256 in
    let high = get_or words at 0 / 256 % 256 in
    let lower_bits = rw spelt at lower in
    let higher_bits = rw spelt at higher in
    rw (bytes_of-more words pair at within fits spelt, spelt, flat_map-append bits_of_byte bytes (low ∷ high ∷ []))
    (shifts_on (flat_map bits_of_byte bytes) (bits_of_byte low ++ bits_of_byte high) before first after sofar
    (shifts_on (bits_of_byte low) (bits_of_byte high) first second after lower_bits higher_bits))

pub length-bits : (bytes : List ℕ) → length (flat_map bits_of_byte bytes) ≡ 8 * length bytes
length-bits [] = refl
length-bits (byte ∷ bytes) = omega (arith, length-bits bytes)

all_left : (register : ℕ) → divided 0 (minus (bits_of_byte 0) (bits_of_byte register)) ≡ bits_of_byte register
unfolding minus divided
all_left register = refl

-- the register after words 0 to 6 is the check byte
pub register_is_check_byte : (words : List ℕ) (register : ℕ) → 7 ≤ length words → register < 256
    → ShiftsThrough (flat_map bits_of_byte (bytes_of (take 7 words))) 255 register → register ≡ check_byte_of words
unfolding check_byte_of dividend
register_is_check_byte words register enough small shifts =
    let count : length (flat_map bits_of_byte (bytes_of (take 7 words))) + 0 ≡ 112
    = omega (arith, length-bits (bytes_of (take 7 words)), length-bytes_of (take 7 words), length-take 7 words) in
    let left : divided 112 (dividend words) ≡ bits_of_byte register
    = rw (← count) (shifts 0 (bits_of_byte 0) ∙ all_left register) in
    rw left (sym (number_of-bits register small))
