-- Words without a difference are the same.
use Rattle.std.proofs.Common.{◌≡◌, ℕ, zero, suc, ◌+◌, ◌<◌, ◌≤◌, ◌==◌, Bool, true, false, if◌then◌else◌, List, [], ◌∷◌, length, max, Option, Some, None, slice_get, refl, ap, subst, ◌∙◌, sym, inl, inr, arith}
use Rattle.std.proofs.lemmas.Bool.{cases_lt}
use Rattle.std.proofs.lemmas.Bool.Decides.{nat_tests}
use Rattle.std.proofs.lemmas.Option.{slice_get_past}
use Rattle.slave_match.specs.Difference.{counted, difference_from, difference_of, is_same}

if_none : {A : Type 0} (test : Bool) (rest : Option A) (one : A) → (if test then rest else Some one) ≡ None → (test ≡ true) × (rest ≡ None)
if_none true rest one is = (refl, is)
if_none false rest one is = absurd cc

same_number : (a b : ℕ) → (a == b) ≡ true → a ≡ b
same_number a b is = grind (arith, nat_tests)

same_words : (has kept : Option ℕ) → is_same has kept ≡ true → has ≡ kept
same_words (Some a) (Some b) is = ap (λ (n : ℕ). Some n) (same_number a b is)
same_words None None is = refl
same_words (Some a) None is = absurd cc
same_words None (Some b) is = absurd cc

-- no difference in so many words from one on
none_from : (count at : ℕ) (words kept : List ℕ) → difference_from count at words kept ≡ None → (i : ℕ) → at ≤ i → i < at + count → slice_get words i ≡ slice_get kept i
none_from zero at words kept none i le lt = absurd (omega arith)
none_from (suc count) at words kept none i le lt =
    let after = difference_from count (suc at) words kept in
    let here = if_none (is_same (slice_get words at) (slice_get kept at)) after (counted at (slice_get words at) (slice_get kept at) after) none in
    elim (cases_lt at i) [
      | inl later ↦ none_from count (suc at) words kept here.1 i (omega arith) (omega arith)
      | inr now ↦
          let is : at ≡ i = omega arith in
          subst (λ (n : ℕ). slice_get words n ≡ slice_get kept n) is (same_words (slice_get words at) (slice_get kept at) here.0)
    ]

same_lists : (xs ys : List ℕ) → ((i : ℕ) → slice_get xs i ≡ slice_get ys i) → xs ≡ ys
same_lists [] [] each = refl
same_lists [] (y ∷ ys) each = let first : None ≡ Some y = each 0 in absurd cc
same_lists (x ∷ xs) [] each = let first : Some x ≡ None = each 0 in absurd cc
same_lists (x ∷ xs) (y ∷ ys) each =
    let first : Some x ≡ Some y = each 0 in
    let same : x ≡ y = cc in
    let rest : xs ≡ ys = same_lists xs ys (λ i. each (suc i)) in
    ap (λ (z : ℕ). z ∷ xs) same ∙ ap (λ (zs : List ℕ). y ∷ zs) rest

pub same_without : (words kept : List ℕ) → difference_of words kept ≡ None → words ≡ kept
same_without words kept none = same_lists words kept each
  where
    each : (i : ℕ) → slice_get words i ≡ slice_get kept i
    each i = elim (cases_lt i (max (length words) (length kept))) [
      | inl inside ↦ none_from (max (length words) (length kept)) 0 words kept none i (omega arith) (omega arith)
      | inr past ↦ slice_get_past words i (omega arith) ∙ sym (slice_get_past kept i (omega arith))
    ]
