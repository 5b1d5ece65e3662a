-- What a power cut could have left since a time, over two sequences of calls.
use Rattle.std.proofs.Common.{◌≡◌, ◌⊎◌, List, [], ◌∷◌, ◌++◌, drop, Any, Option, slice_get, sym, ap, subst, ◌∙◌, inl, inr, append_assoc}
use Rattle.std.proofs.Math.Seq.{drop-append_seam}
use Rattle.std.specs.Prelude.{unwrap_or}
use Rattle.std.specs.Option.{option_map}
use Rattle.site_core.specs.State.{State, Pair, Leaves, Moment, Seen, clock, LeftAt, LeftSince}
use Rattle.site_core.specs.Times.{Instant, instant_of, now_of, instant_at, Follows}
use Rattle.site_core.specs.Laws.{SinceIsUnion}
use Rattle.site_core.proofs.Moments.{Any-nil, Any-first, Any-later, Any-split, Any-append}
use Rattle.site_core.proofs.Times.{slice_get-seam}

pub Any-left : {A : Type 0} (P : A → Type 0) (xs ys : List A) → Any P xs → Any P (xs ++ ys)
Any-left P [] ys any = absurd (Any-nil P any)
Any-left P (x ∷ xs) ys any = elim (Any-split P x xs any) [ inl here ↦ Any-first P x (xs ++ ys) here | inr there ↦ Any-later P x (xs ++ ys) (Any-left P xs ys there) ]

pub Any-right : {A : Type 0} (P : A → Type 0) (xs ys : List A) → Any P ys → Any P (xs ++ ys)
Any-right P [] ys any = any
Any-right P (x ∷ xs) ys any = Any-later P x (xs ++ ys) (Any-right P xs ys any)

added : (old new : Seen) (calls : List Moment) → new.past ≡ old.past ++ calls → drop (clock old) new.past ≡ calls
added old new calls past = ap (λ (p : List Moment). drop (clock old) p) past ∙ drop-append_seam old.past calls

-- what the later calls begin with is what was left
begins_with : (b c : Seen) (calls : List Moment) (pair : Pair) → c.past ≡ b.past ++ calls → instant_at c (clock b) ≡ now_of b → Leaves b.state pair → Leaves c.state pair ⊎ Any (LeftAt pair) calls
begins_with b c [] pair past goes_on leaves =
    let is : instant_at c (clock b) ≡ now_of c = ap (λ (o : Option Moment). unwrap_or (option_map instant_of o) (now_of c)) (ap (λ (p : List Moment). slice_get p (clock b)) past ∙ slice_get-seam b.past []) in
    inl (subst (λ (s : State). Leaves s pair) (ap (λ (i : Instant). i.state) (sym goes_on ∙ is)) leaves)
begins_with b c (call ∷ calls) pair past goes_on leaves =
    let is : instant_at c (clock b) ≡ instant_of call = ap (λ (o : Option Moment). unwrap_or (option_map instant_of o) (now_of c)) (ap (λ (p : List Moment). slice_get p (clock b)) past ∙ slice_get-seam b.past (call ∷ calls)) in
    inr (Any-first (LeftAt pair) call calls (inl (subst (λ (s : State). Leaves s pair) (ap (λ (i : Instant). i.state) (sym goes_on ∙ is)) leaves)))

module _ (a b c : Seen) (pair : Pair) (first : Follows a b) (second : Follows b c) where
  entire : drop (clock a) c.past ≡ first.calls ++ second.calls
  entire = added a c (first.calls ++ second.calls) (second.past ∙ ap (λ (p : List Moment). p ++ second.calls) first.past ∙ append_assoc a.past first.calls second.calls)

  over_both : Any (LeftAt pair) (first.calls ++ second.calls) → LeftSince c (clock a) pair
  over_both any = inr (subst (λ (ms : List Moment). Any (LeftAt pair) ms) (sym entire) any)

  separate : LeftSince c (clock a) pair → LeftSince b (clock a) pair ⊎ LeftSince c (clock b) pair
  separate (inl now) = inr (inl now)
  separate (inr was) = elim (Any-append (LeftAt pair) first.calls second.calls (subst (λ (ms : List Moment). Any (LeftAt pair) ms) entire was)) [
    | inl early ↦ inl (inr (subst (λ (ms : List Moment). Any (LeftAt pair) ms) (sym (added a b first.calls first.past)) early))
    | inr late ↦ inr (inr (subst (λ (ms : List Moment). Any (LeftAt pair) ms) (sym (added b c second.calls second.past)) late))
  ]

  early : LeftSince b (clock a) pair → LeftSince c (clock a) pair
  early (inl leaves) = elim (begins_with b c second.calls pair second.past second.goes_on leaves) [
    | inl now ↦ inl now
    | inr any ↦ over_both (Any-right (LeftAt pair) first.calls second.calls any)
  ]
  early (inr was) = over_both (Any-left (LeftAt pair) first.calls second.calls (subst (λ (ms : List Moment). Any (LeftAt pair) ms) (added a b first.calls first.past) was))

  late : LeftSince c (clock b) pair → LeftSince c (clock a) pair
  late (inl now) = inl now
  late (inr was) = over_both (Any-right (LeftAt pair) first.calls second.calls (subst (λ (ms : List Moment). Any (LeftAt pair) ms) (added b c second.calls second.past) was))

  together : LeftSince b (clock a) pair ⊎ LeftSince c (clock b) pair → LeftSince c (clock a) pair
  together (inl before) = early before
  together (inr after) = late after

pub since_is_union : SinceIsUnion
since_is_union a b c pair first second = (separate a b c pair first second, together a b c pair first second)
