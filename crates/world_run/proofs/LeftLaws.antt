-- The choices for bytes are applied one by one.
use Rattle.std.proofs.Common.{◌≡◌, ◌≢◌, ◌∙◌, ◌⊎◌, inl, inr, ℕ, zero, suc, ◌<◌, ◌≤◌, List, [], ◌∷◌, ◌++◌, length, Some, slice_get, slice_index, slice_set, refl, sym, ap, subst, arith, length-set}
use Rattle.std.specs.Prelude.{◌==◌, if◌then◌else◌}
use Rattle.std.specs.List.{AllByRecursion}
use Rattle.std.proofs.lemmas.Bool.Decides.{eqb_tells}
use Rattle.std.proofs.lemmas.Option.{slice_get-get_or}
use Rattle.site_core.specs.Disk.{Range, IsOutside}
use Rattle.world_run.specs.declared.leaving.LeftByte.{LeftByte}
use Rattle.world_run.specs.Left.{byte_left, HoldsLeft}

byte_left-last : (choice : List LeftByte) (left : LeftByte) (at byte : ℕ) → byte_left (choice ++ left ∷ []) at byte ≡ (if left.at == at then left.byte else byte_left choice at byte)
byte_left-last [] left at byte = refl
byte_left-last (c ∷ cs) left at byte = byte_left-last cs left at (if c.at == at then c.byte else byte)

pub get-set_same : {A : Type 0} (xs : List A) (i : ℕ) (v : A) → i < length xs → slice_get (slice_set xs i v) i ≡ Some v
get-set_same [] i v inside = absurd (omega arith)
get-set_same (x ∷ xs) zero v inside = refl
get-set_same (x ∷ xs) (suc i) v inside = get-set_same xs i v (omega arith)

pub get-set_other : {A : Type 0} (xs : List A) (i j : ℕ) (v : A) → j ≢ i → slice_get (slice_set xs i v) j ≡ slice_get xs j
get-set_other [] i j v other = refl
get-set_other (x ∷ xs) zero zero v other = absurd (other refl)
get-set_other (x ∷ xs) zero (suc j) v other = refl
get-set_other (x ∷ xs) (suc i) zero v other = refl
get-set_other (x ∷ xs) (suc i) (suc j) v other = get-set_other xs i j v (λ e. other (ap suc e))

abbrev Outside : List Range → ℕ → Type 0
Outside ranges at = AllByRecursion (IsOutside at) ranges

pub left-none : (ranges : List Range) (old : List ℕ) → HoldsLeft ranges [] old old
left-none ranges old = record {
  long = refl;
  outside = λ at out. refl;
  inside = λ at within unsynced. slice_get-get_or old at 0 within;
}

-- a byte that may hold anything holds what is left there
pub left-more : (ranges : List Range) (choice : List LeftByte) (left : LeftByte) (old mid : List ℕ) → HoldsLeft ranges choice old mid → left.at < length mid → ¬ Outside ranges left.at
    → HoldsLeft ranges (choice ++ left ∷ []) old (slice_set mid left.at left.byte)
left-more ranges choice left old mid holds within unsynced = record {
  long = length-set mid left.at left.byte ∙ holds.long;
  outside = λ at out. get-set_other mid left.at at left.byte (λ (e : at ≡ left.at). unsynced (subst (Outside ranges) e out)) ∙ holds.outside at out;
  inside = inside;
}
  where
    inside : (at : ℕ) → at < length old → ¬ Outside ranges at → slice_get (slice_set mid left.at left.byte) at ≡ Some (byte_left (choice ++ left ∷ []) at (slice_index old at))
    inside at low here = elim (eqb_tells left.at at) [
      | inl same ↦ subst (λ (p : ℕ). slice_get (slice_set mid left.at left.byte) p ≡ Some left.byte) same.1 (get-set_same mid left.at left.byte within)
          ∙ sym (ap (λ (b : ℕ). Some b) (byte_left-last choice left at (slice_index old at) ∙ rw same.0 refl))
      | inr other ↦ get-set_other mid left.at at left.byte (λ e. other.1 (sym e)) ∙ holds.inside at low here
          ∙ sym (ap (λ (b : ℕ). Some b) (byte_left-last choice left at (slice_index old at) ∙ rw other.0 refl))
    ]

-- and any other byte stays
pub left-skipped : (ranges : List Range) (choice : List LeftByte) (left : LeftByte) (old mid : List ℕ) → HoldsLeft ranges choice old mid → ((length mid ≤ left.at) ⊎ Outside ranges left.at)
    → HoldsLeft ranges (choice ++ left ∷ []) old mid
left-skipped ranges choice left old mid holds not = record { long = holds.long; outside = holds.outside; inside = inside }
  where
    elsewhere : (at : ℕ) → at < length old → ¬ Outside ranges at → ((length mid ≤ left.at) ⊎ Outside ranges left.at) → left.at ≢ at
    elsewhere at low here (inl past) e = let long = holds.long in absurd (omega arith)
    elsewhere at low here (inr out) e = here (subst (Outside ranges) e out)

    inside : (at : ℕ) → at < length old → ¬ Outside ranges at → slice_get mid at ≡ Some (byte_left (choice ++ left ∷ []) at (slice_index old at))
    inside at low here = elim (eqb_tells left.at at) [
      | inl same ↦ absurd (elsewhere at low here not same.1)
      | inr other ↦ holds.inside at low here ∙ sym (ap (λ (b : ℕ). Some b) (byte_left-last choice left at (slice_index old at) ∙ rw other.0 refl))
    ]
