-- What setting the configured station alias does to the words of a slave (ETG.1000.6): word 4 is the alias, and the low byte of
-- word 7 the check byte; its high byte stays.
use Rattle.std.specs.Prelude.{◌≡◌, ◌≢◌, ℕ, ◌+◌, ◌*◌, ◌/◌, ◌%◌, ◌==◌, Bool, not, List, length, slice_index, slice_set}
use Rattle.sii_words.specs.CheckByte.{check_byte_of, IsChecked}

-- The new words are the old ones with this alias: they differ only at word 4 and in the low byte of word 7.
pub record ChangesAlias (old : List ℕ) (value : ℕ) (new : List ℕ) : Type 0 where
  pub alias : slice_index new 4 ≡ value
  pub check_byte : IsChecked new
  pub high_byte : slice_index new 7 / 256 ≡ slice_index old 7 / 256
  pub others : (at : ℕ) → at ≢ 4 → at ≢ 7 → slice_index new at ≡ slice_index old at
  pub length : length new ≡ length old

-- a word with another low byte
abbrev pub with_low_byte : ℕ → ℕ → ℕ
with_low_byte word byte = 256 * (word / 256) + byte

-- the words with this alias in word 4, and their check byte in word 7
abbrev pub with_alias : List ℕ → ℕ → List ℕ
with_alias words value =
    let named = slice_set words 4 value in
    slice_set named 7 (with_low_byte (slice_index words 7) (check_byte_of named))

-- the low byte of word 7 isn't the check byte of words 0 to 6
abbrev pub is_unchecked : List ℕ → Bool
is_unchecked words = not (slice_index words 7 % 256 == check_byte_of words)
