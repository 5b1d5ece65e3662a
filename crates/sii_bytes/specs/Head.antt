-- The head of an image.
use Rattle.std.specs.Prelude.{◌≡◌, ℕ, ◌%◌, List, length, slice_index}
use Rattle.sii_words.specs.Words.{alias_of}
use Rattle.sii_words.specs.CheckByte.{check_byte_of}
use Rattle.sii_words.specs.Identity.{identity_of}
use Rattle.sii_bytes.specs.declared.head.Head.{Head}

-- This is the head of an image with these words.
pub record IsHead (words : List ℕ) (head : Head) : Type 0 where
  pub count : head.words ≡ length words
  pub alias : head.alias ≡ alias_of words
  pub check : head.check ≡ slice_index words 7 % 256
  pub expected : head.expected ≡ check_byte_of words
  pub vendor : head.vendor ≡ (identity_of words).vendor
  pub product : head.product ≡ (identity_of words).product
  pub revision : head.revision ≡ (identity_of words).revision
  pub serial : head.serial ≡ (identity_of words).serial
