-- What two EEPROM images differ in.
use Rattle.std.specs.Prelude.{◌≡◌, ◌≢◌, ◌%◌, ◌<◌, ◌↔◌, ℕ, List, [], length, min, take, slice_index, IsSome}
use Rattle.sii_words.specs.Identity.{identity_of}
use Rattle.sii_words.specs.Redo.{last_given}
use Rattle.sii_words.specs.Run.{stretches}
use Rattle.sii_words.specs.Words.{alias_of}
use Rattle.line_changes.specs.declared.difference.Difference.{Difference}
use Rattle.line_changes.specs.declared.head.Head.{Head}
use Rattle.line_changes.specs.declared.words.WordChanges.{WordChanges}

-- this is the head of an image: its length, alias, check byte as it stands there, and identity
pub record IsHead (words : List ℕ) (head : Head) : Type 0 where
  pub count : head.count ≡ length words
  pub alias : head.alias ≡ alias_of words
  pub check : head.check ≡ slice_index words 7 % 256
  pub identity : head.identity ≡ identity_of words

-- how many words both lists have
abbrev pub common : List ℕ → List ℕ → ℕ
common old new = min (length old) (length new)

-- these are the longest stretches in which the words that both lists have differ, with the words of each
pub record AreChanges (old new : List ℕ) (changes : WordChanges) : Type 0 where
  pub of_old : changes.old.items ≡ stretches 0 0 (take (common old new) new) (take (common old new) old)
  pub of_new : changes.new.items ≡ stretches 0 0 (take (common old new) old) (take (common old new) new)

-- this is what two images differ in
pub record Compares (old new : List ℕ) (difference : Difference) : Type 0 where
  pub of_old : IsHead old difference.old
  pub of_new : IsHead new difference.new
  pub words : AreChanges old new difference.words

-- nothing differs: the lengths are equal, and no stretch is listed
abbrev pub NothingDiffers : Difference → Type 0
NothingDiffers difference = (difference.old.count ≡ difference.new.count) × (difference.words.new.items ≡ [])

-- a word lies in a listed stretch
abbrev pub IsListed : Difference → ℕ → Type 0
IsListed difference at = IsSome (last_given difference.words.new.items 0 at)

-- a word that both images have lies in a listed stretch exactly where its values differ
abbrev pub NamesDifferences : List ℕ → List ℕ → Difference → Type 0
NamesDifferences old new difference = (at : ℕ) → at < length old → at < length new
    → IsListed difference at ↔ (slice_index old at ≢ slice_index new at)
