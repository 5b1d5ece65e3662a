-- The half of one slave in the state of a site.
use Rattle.std.proofs.Common.{◌≡◌, ℕ, zero, suc, List, [], ◌∷◌, Some, slice_get, slice_set, refl, sym, ap, subst, ◌∙◌}
use Rattle.std.proofs.lemmas.List.{set-set}
use Rattle.esc_model.specs.SlaveHalf.{SlaveHalf}
use Rattle.site_core.specs.State.{State, HalfGoes, with_half}

pub same_some : {A : Type 0} (x y : A) → Some x ≡ Some y → x ≡ y
same_some x y e = cc

pub slice_set-same : {A : Type 0} (xs : List A) (i : ℕ) (x : A) → slice_get xs i ≡ Some x → slice_set xs i x ≡ xs
slice_set-same [] i x here = absurd cc
slice_set-same (y ∷ ys) zero x here = let e : y ≡ x = same_some y x here in ap (λ (z : _). z ∷ ys) (sym e)
slice_set-same (y ∷ ys) (suc i) x here = ap (λ (zs : _). y ∷ zs) (slice_set-same ys i x here)

pub slice_get-set : {A : Type 0} (xs : List A) (i : ℕ) (x y : A) → slice_get xs i ≡ Some x → slice_get (slice_set xs i y) i ≡ Some y
slice_get-set [] i x y here = absurd cc
slice_get-set (z ∷ zs) zero x y here = refl
slice_get-set (z ∷ zs) (suc i) x y here = slice_get-set zs i x y here

-- a half in its own place changes nothing
pub with_half-same : (state : State) (slave : ℕ) (half : SlaveHalf) → slice_get state.halves slave ≡ Some half → with_half state slave half ≡ state
with_half-same state slave half here = ap (λ (hs : List SlaveHalf). record state { halves = hs }) (slice_set-same state.halves slave half here)

module _ {R : SlaveHalf → SlaveHalf → Type 0} {old new : State} {slave : ℕ} (goes : HalfGoes R old slave new) where
  -- after it the half is there
  pub HalfGoes-there : slice_get new.halves slave ≡ Some goes.later
  HalfGoes-there = ap (λ (s : State). slice_get s.halves slave) goes.new_is ∙ slice_get-set old.halves slave goes.half goes.later goes.here

  pub HalfGoes-weaker : {W : SlaveHalf → SlaveHalf → Type 0} → ((half later : SlaveHalf) → slice_get old.halves slave ≡ Some half → slice_get new.halves slave ≡ Some later → R half later → W half later)
      → HalfGoes W old slave new
  HalfGoes-weaker weaker =
      record { half = goes.half; here = goes.here; later = goes.later; new_is = goes.new_is; goes = weaker goes.half goes.later goes.here HalfGoes-there goes.goes }

-- one after the other
pub HalfGoes-then : {R W : SlaveHalf → SlaveHalf → Type 0} {V : SlaveHalf → SlaveHalf → Type 0} {a b c : State} {slave : ℕ}
    → ((half mid later : SlaveHalf) → R half mid → W mid later → V half later) → HalfGoes R a slave b → HalfGoes W b slave c → HalfGoes V a slave c
HalfGoes-then {R} {W} {V} {a} {b} {c} {slave} both first second =
    let same : second.half ≡ first.later = same_some second.half first.later (sym second.here ∙ HalfGoes-there first) in
    record {
      half = first.half;
      here = first.here;
      later = second.later;
      new_is = second.new_is ∙ ap (λ (s : State). with_half s slave second.later) first.new_is
          ∙ ap (λ (hs : List SlaveHalf). record a { halves = hs }) (set-set a.halves slave first.later second.later);
      goes = both first.half first.later second.later first.goes (subst (λ (h : SlaveHalf). W h second.later) same second.goes);
    }
