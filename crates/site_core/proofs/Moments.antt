-- What a power cut may leave of a state, and could have left since a time.
use Rattle.std.proofs.Common.{◌≡◌, ◌⊎◌, ℕ, zero, suc, ◌<◌, List, [], ◌∷◌, ◌++◌, length, drop, Any, Some, slice_get, refl, sym, ap, subst, ◌∙◌, inl, inr, arith}
use Rattle.std.proofs.Math.Seq.{drop-append_seam}
use Rattle.esc_model.specs.SlaveHalf.{SlaveHalf, MayLeave}
use Rattle.site_core.specs.State.{State, Pair, Leaves, Stopped, Moment, Seen, clock, with_half, LeftAt, LeftSince}
use Rattle.site_core.proofs.StopImages.{StopImage-stopped}
use Rattle.site_core.proofs.Halves.{EachMayLeave-stopped, EachMayLeave-less}

-- a power cut adds nothing to what a later one may leave
pub Leaves-stopped : (state later : State) (pair : Pair) → Stopped state later → Leaves later pair → Leaves state pair
Leaves-stopped state later pair stopped leaves = record {
  disk = StopImage-stopped state.disk later.disk pair.disk stopped.disk leaves.disk;
  words = EachMayLeave-stopped state.halves later.halves pair.words stopped.halves leaves.words;
}

-- nor does a slave of which a power cut leaves no more than before
pub Leaves-less : (state : State) (slave : ℕ) (half later : SlaveHalf) (pair : Pair) → slice_get state.halves slave ≡ Some half
    → ((left : List ℕ) → MayLeave later left → MayLeave half left) → Leaves (with_half state slave later) pair → Leaves state pair
Leaves-less state slave half later pair here less leaves = record {
  disk = leaves.disk;
  words = EachMayLeave-less state.halves slave half later pair.words here less leaves.words;
}

-- some element of a list has it where the first or some other has it
pub Any-nil : {A : Type 0} (P : A → Type 0) → Any P [] → ⊥
Any-nil P any = omega (arith, any.2)

pub Any-first : {A : Type 0} (P : A → Type 0) (x : A) (xs : List A) → P x → Any P (x ∷ xs)
Any-first P x xs here = (0, x, omega arith, refl, here)

pub Any-later : {A : Type 0} (P : A → Type 0) (x : A) (xs : List A) → Any P xs → Any P (x ∷ xs)
Any-later P x xs any = let lt : any.0 < length xs = any.2 in (suc any.0, any.1, omega arith, any.3, any.4)

pub Any-split : {A : Type 0} (P : A → Type 0) (x : A) (xs : List A) → Any P (x ∷ xs) → P x ⊎ Any P xs
Any-split P x xs (zero, y, lt, is, holds) = inl (subst P (sym is) holds)
Any-split P x xs (suc k, y, lt, is, holds) = inr (k, y, omega arith, is, holds)

pub Any-append : {A : Type 0} (P : A → Type 0) (xs ys : List A) → Any P (xs ++ ys) → Any P xs ⊎ Any P ys
Any-append P [] ys any = inr any
Any-append P (x ∷ xs) ys any =
    elim (Any-split P x (xs ++ ys) any) [
      | inl here ↦ inl (Any-first P x xs here)
      | inr there ↦ elim (Any-append P xs ys there) [ inl before ↦ inl (Any-later P x xs before) | inr after ↦ inr after ]
    ]

-- what was left since a time by the moments that were added since
pub LeftSince-added : (old new : Seen) (calls : List Moment) (pair : Pair) → new.past ≡ old.past ++ calls
    → LeftSince new (clock old) pair → Leaves new.state pair ⊎ Any (LeftAt pair) calls
LeftSince-added old new calls pair past (inl now) = inl now
LeftSince-added old new calls pair past (inr was) =
    let e : drop (length old.past) new.past ≡ calls = ap (λ (p : List Moment). drop (length old.past) p) past ∙ drop-append_seam old.past calls in
    inr (subst (λ (ms : List Moment). Any (LeftAt pair) ms) e was)
