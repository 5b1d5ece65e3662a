-- How the check byte depends on the words.
use Rattle.std.proofs.Common.{◌≡◌, ℕ, zero, suc, ◌+◌, ◌-◌, ◌*◌, ◌%◌, ◌^◌, ◌<◌, ◌≤◌, Bool, true, false, if◌then◌else◌, List, [], ◌∷◌, ◌++◌, length, get_or, take, set, get_or-set_same, fold, flat_map, refl, sym, ap, ◌∙◌, length-append, arith}
use Rattle.std.proofs.lemmas.List.{length-take, take-set-le, take-take}
use Rattle.std.proofs.Math.Seq.{take-set-lt}
use Rattle.std.proofs.Math.Nat.{pow-succ', pow-le-pow_right}
use Rattle.sii_words.specs.Words.{bytes_of}
use Rattle.sii_words.specs.CheckByte.{bits_of_byte, number_of, minus, divisor, divided, complemented, dividend, check_byte_of, IsChecked}
use Rattle.sii_words.proofs.WordBytes.{length-bytes_of}
use Rattle.sii_words.proofs.ShiftRegister.{length-bits}

-- the check byte depends on words 0 to 6 alone
pub check_byte_same : (words others : List ℕ) → take 7 words ≡ take 7 others → check_byte_of words ≡ check_byte_of others
unfolding check_byte_of dividend
check_byte_same words others same =
    ap (λ (seven : List ℕ). number_of (divided 112 (complemented (flat_map bits_of_byte (bytes_of seven) ++ bits_of_byte 0)))) same

-- so words from 7 on may change
pub check_byte_of-set : (words : List ℕ) (at value : ℕ) → 7 ≤ at → check_byte_of (set words at value) ≡ check_byte_of words
check_byte_of-set words at value after = check_byte_same (set words at value) words (take-set-le 7 words at value after)

-- words 0 to 6 with another word 4 are enough
pub check_byte_of-front : (words front : List ℕ) (alias : ℕ) → front ≡ take 7 words → check_byte_of (set front 4 alias) ≡ check_byte_of (set words 4 alias)
check_byte_of-front words front alias is =
    check_byte_same (set front 4 alias) (set words 4 alias) (
    take-set-lt 7 front 4 alias (omega arith) ∙ ap (λ (seven : List ℕ). set seven 4 alias) (ap (take 7) is ∙ take-take 7 7 words (omega arith)) ∙ sym (take-set-lt 7 words 4 alias (omega arith))
    )

-- and a word 7 with that low byte makes the check right
pub checked_by_word_7 : (words : List ℕ) (value : ℕ) → 7 < length words → value % 256 ≡ check_byte_of words → IsChecked (set words 7 value)
checked_by_word_7 words value within right =
    let written : get_or (set words 7 value) 7 0 ≡ value = get_or-set_same words 7 value 0 within in
    rw (written, check_byte_of-set words 7 value (omega arith)) right

length-minus : (bits less : List Bool) → length (minus bits less) ≡ length bits
unfolding minus
length-minus bits [] = refl
length-minus [] (d ∷ less) = refl
length-minus (true ∷ bits) (d ∷ less) = omega (arith, length-minus bits less)
length-minus (false ∷ bits) (d ∷ less) = omega (arith, length-minus bits less)

length-divided : (digits : ℕ) (bits : List Bool) → length (divided digits bits) ≡ length bits - digits
unfolding divided
length-divided zero bits = omega arith
length-divided (suc digits) [] = omega arith
length-divided (suc digits) (true ∷ bits) = omega (arith, length-divided digits (minus bits divisor), length-minus bits divisor)
length-divided (suc digits) (false ∷ bits) = omega (arith, length-divided digits bits)

spelt_below : (bits : List Bool) (number : ℕ) → fold (λ sofar bit. 2 * sofar + (if bit then 1 else 0)) number bits < (number + 1) * 2 ^ length bits
spelt_below [] number = omega arith
spelt_below (true ∷ bits) number =
    let more = spelt_below bits (2 * number + 1) in
    rw (pow-succ' 2 (length bits)) (omega (arith, more))
spelt_below (false ∷ bits) number =
    let more = spelt_below bits (2 * number + 0) in
    rw (pow-succ' 2 (length bits)) (omega (arith, more))

-- the check byte is a byte
pub check_byte_below : (words : List ℕ) → check_byte_of words < 256
unfolding check_byte_of dividend
check_byte_below words =
    let entire = flat_map bits_of_byte (bytes_of (take 7 words)) ++ bits_of_byte 0 in
    let size : length (dividend words) ≤ 120 = omega (
      arith,
      length-minus entire (bits_of_byte 255),
      length-append (flat_map bits_of_byte (bytes_of (take 7 words))) (bits_of_byte 0),
      length-bits (bytes_of (take 7 words)),
      length-bytes_of (take 7 words),
      length-take 7 words,
    ) in
    let left = divided 112 (dividend words) in
    let few : length left ≤ 8 = omega (arith, length-divided 112 (dividend words)) in
    let limit : 2 ^ length left ≤ 2 ^ 8 = pow-le-pow_right (omega arith) few in
    let below : number_of left < (0 + 1) * 2 ^ length left = spelt_below left 0 in
    omega (arith, below, limit)
