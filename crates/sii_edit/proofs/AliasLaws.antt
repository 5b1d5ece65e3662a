-- Setting the alias: what `with_alias` changes, and that nothing else has the same effect.
use Rattle.std.proofs.Common.{◌≡◌, ℕ, ◌/◌, ◌%◌, ◌<◌, List, length, take, slice_index, slice_set, sym, ◌∙◌, inl, inr, arith, ext_get_or, get_or-set_same, get_or-set_other, length-set, length-take, get_or-take}
use Rattle.std.proofs.lemmas.List.{take-set-le}
use Rattle.std.proofs.lemmas.Bool.{cases_eq}
use Rattle.sii_words.specs.CheckByte.{check_byte_of}
use Rattle.sii_words.proofs.CheckByteLaws.{check_byte_below, check_byte_same}
use Rattle.sii_edit.specs.Alias.{ChangesAlias, with_alias, with_low_byte}

pub length-with_alias : (words : List ℕ) (value : ℕ) → length (with_alias words value) ≡ length words
length-with_alias words value = omega (arith, length-set {A = ℕ})

-- the check byte of words 0 to 6 doesn't depend on word 7
check_byte_of-set_seven : (words : List ℕ) (word : ℕ) → check_byte_of (slice_set words 7 word) ≡ check_byte_of words
check_byte_of-set_seven words word = check_byte_same (slice_set words 7 word) words (take-set-le 7 words 7 word (omega arith))

pub ChangesAlias-with_alias : (words : List ℕ) (value : ℕ) → 7 < length words → ChangesAlias words value (with_alias words value)
ChangesAlias-with_alias words value long =
    let named : List ℕ = slice_set words 4 value in
    let word : ℕ = with_low_byte (slice_index words 7) (check_byte_of named) in
    let seven : slice_index (with_alias words value) 7 ≡ word = get_or-set_same named 7 word 0 (omega (arith, length-set words 4 value)) in
    let below : check_byte_of named < 256 = check_byte_below named in
    record {
      alias = get_or-set_other named 7 4 word 0 (omega arith) ∙ get_or-set_same words 4 value 0 (omega arith);
      check_byte = rw (check_byte_of-set_seven named word) (omega arith);
      high_byte = omega arith;
      others = λ at not_four not_seven. get_or-set_other named 7 at word 0 not_seven ∙ get_or-set_other words 4 at value 0 not_four;
      length = length-with_alias words value;
    }

-- words 0 to 6 of what a change of the alias leaves
front_of : (old new : List ℕ) (value : ℕ) → 7 < length old → ChangesAlias old value new → take 7 new ≡ take 7 (slice_set old 4 value)
front_of old new value long changes =
    let named : List ℕ = slice_set old 4 value in
    let old_size : length named ≡ length old = length-set old 4 value in
    let new_size : length new ≡ length old = changes.length in
    ext_get_or 0 (take 7 new) (take 7 named) (omega (arith, length-take 7 new, length-take 7 named))
    (λ at within. let below : at < 7 = omega (arith, length-take 7 new) in
    get_or-take 7 new at 0 below ∙ here at below ∙ sym (get_or-take 7 named at 0 below))
  where
    here : (at : ℕ) → at < 7 → slice_index new at ≡ slice_index (slice_set old 4 value) at
    here at below = elim (cases_eq at 4) [
      | inl four ↦ rw four (changes.alias ∙ sym (get_or-set_same old 4 value 0 (omega arith)))
      | inr not_four ↦ changes.others at not_four (omega arith) ∙ sym (get_or-set_other old 4 at value 0 not_four)
    ]

-- the relation determines the words
pub with_alias-from_ChangesAlias : (old new : List ℕ) (value : ℕ) → 7 < length old → ChangesAlias old value new → new ≡ with_alias old value
with_alias-from_ChangesAlias old new value long changes =
    let same : check_byte_of new ≡ check_byte_of (slice_set old 4 value) = check_byte_same new (slice_set old 4 value) (front_of old new value long changes) in
    let made = ChangesAlias-with_alias old value long in
    ext_get_or 0 new (with_alias old value) (omega (arith, changes.length, made.length)) (λ at within. here same at)
  where
    seven : check_byte_of new ≡ check_byte_of (slice_set old 4 value) → slice_index new 7 ≡ slice_index (with_alias old value) 7
    seven same =
        let low : slice_index new 7 % 256 ≡ check_byte_of new = changes.check_byte in
        let high : slice_index new 7 / 256 ≡ slice_index old 7 / 256 = changes.high_byte in
        omega (arith, get_or-set_same (slice_set old 4 value) 7 (with_low_byte (slice_index old 7) (check_byte_of (slice_set old 4 value))) 0 (omega (arith, length-set old 4 value)))

    here : check_byte_of new ≡ check_byte_of (slice_set old 4 value) → (at : ℕ) → slice_index new at ≡ slice_index (with_alias old value) at
    here same at = elim (cases_eq at 4) [
      | inl four ↦ rw four (changes.alias ∙ sym (ChangesAlias-with_alias old value long).alias)
      | inr not_four ↦ elim (cases_eq at 7) [
        | inl is_seven ↦ rw is_seven (seven same)
        | inr not_seven ↦ changes.others at not_four not_seven ∙ sym ((ChangesAlias-with_alias old value long).others at not_four not_seven)
      ]
    ]
