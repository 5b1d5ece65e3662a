-- The fields of a header word and of a length word.
use Rattle.std.proofs.Common.{◌≡◌, ℕ, ◌+◌, ◌*◌, ◌/◌, ◌%◌, ◌^◌, ◌<◌, cond, eqb, zero, suc, refl, arith}
use Rattle.std.specs.Prelude.{bit_and}
use Rattle.std.specs.Int.{bit_at}
use Rattle.std.proofs.lemmas.Nat.{and_mask}
use Rattle.std.proofs.lemmas.Nat.Bits.{and_pow}
use mathlib.Core.Bool.{not}
use Rattle.ecat_frame.specs.Frame.{length_word, header_word}

-- a length word is made of the fields that are read from it
pub length_word_read : (word : ℕ) → word < 2 ^ 16 → word ≡ length_word (bit_and word 2047) (word / 2 ^ 11 % 2 ^ 4) (not (eqb (bit_and word 32768) 0))
length_word_read word lt =
    let top : bit_and word 32768 ≡ bit_at word 15 * 2 ^ 15 = and_pow word 15 in
    rw (top, and_mask word 11) (by_bit (bit_at word 15) refl)
  where
    by_bit : (b : ℕ) → b ≡ bit_at word 15 → word ≡ word % 2 ^ 11 + 2 ^ 11 * (word / 2 ^ 11 % 2 ^ 4) + (cond (not (eqb (b * 2 ^ 15) 0)) (2 ^ 15) 0)
    by_bit zero e = omega arith
    by_bit (suc zero) e = omega arith
    by_bit (suc (suc b)) e = absurd (omega arith)

-- a header word is made of the fields that are read from it
pub header_word_read : (word : ℕ) → word < 2 ^ 16 → word ≡ header_word (bit_and word 2047) (word / 2 ^ 11 % 2) (word / 2 ^ 12)
header_word_read word lt = rw (and_mask word 11) (omega arith)
