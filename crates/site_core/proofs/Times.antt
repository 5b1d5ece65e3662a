-- A site at each time of its clock.
use Rattle.std.proofs.Common.{◌≡◌, ℕ, zero, suc, ◌+◌, ◌<◌, ◌≤◌, List, [], ◌∷◌, ◌++◌, length, Option, Some, None, slice_get, Result, refl, sym, ap, ◌∙◌, inl, inr, arith, append_assoc, length-append}
use Rattle.std.proofs.lemmas.List.{append-nil}
use Rattle.std.specs.Prelude.{◌⊎◌, unwrap_or}
use Rattle.std.proofs.lemmas.Bool.Decides.{eqb_tells}
use Rattle.std.specs.Option.{option_map}
use Rattle.site_core.specs.declared.fault.DeviceFault.{DeviceFault}
use Rattle.site_core.specs.State.{State, Moment, Seen, clock}
use Rattle.site_core.specs.Times.{Instant, instant_of, now_of, instant_at, FailsAt, Follows}
use Rattle.site_core.specs.Calls.{Calls}

pub slice_get-seam : {A : Type 0} (xs ys : List A) → slice_get (xs ++ ys) (length xs) ≡ slice_get ys 0
slice_get-seam [] ys = refl
slice_get-seam (x ∷ xs) ys = slice_get-seam xs ys

pub slice_get-early : {A : Type 0} (xs ys : List A) (k : ℕ) → k < length xs → slice_get (xs ++ ys) k ≡ slice_get xs k
slice_get-early [] ys k early = absurd (omega arith)
slice_get-early (x ∷ xs) ys zero early = refl
slice_get-early (x ∷ xs) ys (suc k) early = slice_get-early xs ys k (omega arith)

slice_get-past : {A : Type 0} (xs : List A) (k : ℕ) → length xs ≤ k → slice_get xs k ≡ None
slice_get-past [] k past = refl
slice_get-past (x ∷ xs) zero past = absurd (omega arith)
slice_get-past (x ∷ xs) (suc k) past = slice_get-past xs k (omega arith)

slice_get-there : {A : Type 0} (xs : List A) (k : ℕ) → k < length xs → (x : A) × (slice_get xs k ≡ Some x)
slice_get-there [] k early = absurd (omega arith)
slice_get-there (x ∷ xs) zero early = (x, refl)
slice_get-there (x ∷ xs) (suc k) early = slice_get-there xs k (omega arith)

-- by what the past has there
instant_by : (seen : Seen) (time : ℕ) (moment : Moment) → slice_get seen.past time ≡ Some moment → instant_at seen time ≡ instant_of moment
instant_by seen time moment is = ap (λ (o : Option Moment). unwrap_or (option_map instant_of o) (now_of seen)) is

-- at the clock it is now
pub instant-now : (seen : Seen) (time : ℕ) → time ≡ clock seen → instant_at seen time ≡ now_of seen
instant-now seen time is = ap (λ (o : Option Moment). unwrap_or (option_map instant_of o) (now_of seen)) (slice_get-past seen.past time (omega arith))

pub Follows-clock : (a b : Seen) → Follows a b → clock a ≤ clock b
Follows-clock a b follows = let e = ap length follows.past in omega (arith, length-append a.past follows.calls)

-- what was stays
pub instant-stays : (a b : Seen) (time : ℕ) → Follows a b → time ≤ clock a → instant_at b time ≡ instant_at a time
instant-stays a b time follows early = elim (before_or_now time (clock a) early) [
  | inl before ↦
      let there = slice_get-there a.past time before in
      instant_by b time there.0 (ap (λ (p : List Moment). slice_get p time) follows.past ∙ slice_get-early a.past follows.calls time before ∙ there.1)
      ∙ sym (instant_by a time there.0 there.1)
  | inr now ↦ ap (λ (t : ℕ). instant_at b t) now ∙ follows.goes_on ∙ sym (instant-now a time now)
]
  where
    before_or_now : (t c : ℕ) → t ≤ c → (t < c) ⊎ (t ≡ c)
    before_or_now t c le = elim (eqb_tells t c) [ inl same ↦ inr same.1 | inr other ↦ inl (let d = other.1 in omega arith) ]

pub Follows-same : (seen : Seen) → Follows seen seen
Follows-same seen = record { calls = []; past = sym (append-nil seen.past); goes_on = instant-now seen (clock seen) refl }

pub Follows-then : (a b c : Seen) → Follows a b → Follows b c → Follows a c
Follows-then a b c first second = record {
  calls = first.calls ++ second.calls;
  past = second.past ∙ ap (λ (p : List Moment). p ++ second.calls) first.past ∙ append_assoc a.past first.calls second.calls;
  goes_on = instant-stays b c (clock a) second (Follows-clock a b first) ∙ first.goes_on;
}

-- one call
pub Calls-follows : {T : Type 0} (old : Seen) (middle : List State) (result : Result T DeviceFault) (new : Seen) → Calls old middle result new → Follows old new
Calls-follows old middle result new call = record {
  calls = record { before = old.state; faults = old.faults; middle = middle } ∷ [];
  past = call.past;
  goes_on = instant_by new (clock old) (record { before = old.state; faults = old.faults; middle = middle })
      (ap (λ (p : List Moment). slice_get p (clock old)) call.past ∙ slice_get-seam old.past (record { before = old.state; faults = old.faults; middle = middle } ∷ []));
}

pub Calls-clock : {T : Type 0} (old : Seen) (middle : List State) (result : Result T DeviceFault) (new : Seen) → Calls old middle result new → clock new ≡ clock old + 1
Calls-clock old middle result new call = ap length call.past ∙ length-append old.past (record { before = old.state; faults = old.faults; middle = middle } ∷ [])

-- a fault of the past stays one
pub FailsAt-stays : (a b : Seen) (time : ℕ) → Follows a b → time < clock a → FailsAt a time → FailsAt b time
FailsAt-stays a b time follows early fails =
    let first : (instant_at b time).faults ≡ (instant_at a time).faults = ap (λ (i : Instant). i.faults) (instant-stays a b time follows (omega arith)) in
    let second : (instant_at b (time + 1)).faults ≡ (instant_at a (time + 1)).faults = ap (λ (i : Instant). i.faults) (instant-stays a b (time + 1) follows (omega arith)) in
    omega arith
