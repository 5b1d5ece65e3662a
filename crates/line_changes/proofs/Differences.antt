-- The stretches in which two lists of words differ, of those words that both have.
use Rattle.std.proofs.Common.{◌≡◌, ◌≢◌, ◌<◌, ◌≤◌, ◌↔◌, ℕ, List, [], length, get_or, take, min, Option, Some, None}
use Rattle.std.proofs.Common.{IsSome, refl, sym, ap, ◌∙◌, inl, inr, arith, zero-add}
use Rattle.std.proofs.lemmas.Bool.{cases_eq}
use Rattle.std.proofs.lemmas.Grind.{same_number_lists}
use Rattle.std.proofs.lemmas.List.{get_or-take, length-take-le, take_all}
use Rattle.sii_words.specs.Redo.{last_given}
use Rattle.sii_words.specs.Run.{change, stretches}
use Rattle.sii_words.proofs.StretchLaws.{last_given-stretches, other_change, same_change, stretches-same}
use Rattle.line_changes.specs.Difference.{common, Compares, NamesDifferences, NothingDiffers}
use Rattle.line_changes.specs.declared.difference.Difference.{Difference}

-- a word is named exactly where it changes
changed : (old new : ℕ) (named : Option ℕ) → named ≡ change old new → IsSome named ↔ (old ≢ new)
changed old new named is = elim (cases_eq old new) [
  | inl same ↦ (λ some. absurd (cc (some, is, same_change old new same)), λ other. absurd (other same))
  | inr other ↦ (λ some. other, λ there. cc (is, other_change old new other))
]

-- the stretches of words of one length name a word exactly where it changes
named_within : (old new : List ℕ) (k : ℕ) → length new ≡ length old → k < length old
    → last_given (stretches 0 0 old new) 0 k ≡ change (get_or old k 0) (get_or new k 0)
named_within old new k size within = rw zero-add at (last_given-stretches 0 0 old new k size within)

-- words of one length without stretches are the same
same_without : (old new : List ℕ) → length new ≡ length old → stretches 0 0 old new ≡ [] → old ≡ new
same_without old new size none = same_number_lists old new (sym size) unchanged
  where
    unchanged : (k : ℕ) → k < length old → get_or old k 0 ≡ get_or new k 0
    unchanged k within = elim (cases_eq (get_or old k 0) (get_or new k 0)) [
      | inl same ↦ same
      | inr other ↦ absurd (cc (ap (λ runs. last_given runs 0 k) none, named_within old new k size within, other_change (get_or old k 0) (get_or new k 0) other))
    ]

-- the words that both lists have
length_common : (old new : List ℕ) → (length (take (common old new) old) ≡ common old new) × (length (take (common old new) new) ≡ common old new)
length_common old new = (length-take-le (common old new) old (omega arith), length-take-le (common old new) new (omega arith))

-- a word that both lists have is named exactly where it differs
named_common : (old new : List ℕ) (k : ℕ) → k < length old → k < length new
    → IsSome (last_given (stretches 0 0 (take (common old new) old) (take (common old new) new)) 0 k) ↔ (get_or old k 0 ≢ get_or new k 0)
named_common old new k within inside =
    let count : ℕ = common old new in
    let both = length_common old new in
    let below : k < count = omega arith in
    let named = named_within (take count old) (take count new) k (both.1 ∙ sym both.0) (omega (arith, both.0)) in
    changed (get_or old k 0) (get_or new k 0) (last_given (stretches 0 0 (take count old) (take count new)) 0 k)
    (rw (get_or-take count old k 0 below, get_or-take count new k 0 below) at named)

-- lists of one length without stretches are the same, and the same list has none
none_common : (old new : List ℕ)
    → ((length old ≡ length new) × (stretches 0 0 (take (common old new) old) (take (common old new) new) ≡ [])) ↔ (old ≡ new)
none_common old new = (forth, back)
  where
    forth : (length old ≡ length new) × (stretches 0 0 (take (common old new) old) (take (common old new) new) ≡ []) → old ≡ new
    forth (size, none) = same_without old new (sym size) (rw (take_all (common old new) old (omega (arith, size)), take_all (common old new) new (omega (arith, size))) at none)

    back : old ≡ new → (length old ≡ length new) × (stretches 0 0 (take (common old new) old) (take (common old new) new) ≡ [])
    back same = (ap length same, ap (λ list. stretches 0 0 (take (common old new) old) (take (common old new) list)) (sym same) ∙ stretches-same 0 0 (take (common old new) old))

-- nothing differs exactly between images with the same words
pub nothing_differs : (old new : List ℕ) (difference : Difference) → Compares old new difference → NothingDiffers difference ↔ (old ≡ new)
nothing_differs old new difference compares = (forth, back)
  where
    forth : NothingDiffers difference → old ≡ new
    forth none = (none_common old new).0 (sym compares.of_old.count ∙ none.0 ∙ compares.of_new.count, sym compares.words.of_new ∙ none.1)

    back : old ≡ new → NothingDiffers difference
    back same = let none = (none_common old new).1 same in (compares.of_old.count ∙ none.0 ∙ sym compares.of_new.count, compares.words.of_new ∙ none.1)

-- the words that are listed are those that differ
pub differences_named : (old new : List ℕ) (difference : Difference) → Compares old new difference → NamesDifferences old new difference
differences_named old new difference compares at within inside = rw compares.words.of_new (named_common old new at within inside)
