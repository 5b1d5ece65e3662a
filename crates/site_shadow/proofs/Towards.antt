-- What a power cut could have left of a site towards each time of its clock.
use Rattle.std.proofs.Common.{◌≡◌, ◌⊎◌, ◌∙◌, ℕ, zero, suc, ◌≤◌, ◌<◌, List, [], ◌∷◌, ◌++◌, length, drop, Any, Some, slice_get, refl, sym, ap, subst, inl, inr, arith, length-append}
use Rattle.std.proofs.lemmas.List.{drop-append-le}
use Rattle.std.proofs.Math.Seq.{drop-length}
use Rattle.std.proofs.lemmas.Bool.Decides.{eqb_tells}
use Rattle.site_core.specs.State.{State, Seen, Pair, Moment, Leaves, LeftAt, LeftSince, clock}
use Rattle.site_core.proofs.Moments.{Any-first, Any-later}
use Rattle.site_core.proofs.Times.{slice_get-seam, slice_get-early}
use Rattle.site_shadow.specs.Following.{begin_of, first_of, state_at, LeftTowards, Continues, begins, goes_on, rests, Extends}

begins_alike : (past : List Moment) (moment : Moment) (state : State) → begin_of (past ++ moment ∷ []) state ≡ begin_of past moment.before
begins_alike [] moment state = refl
begins_alike (m ∷ past) moment state = refl

-- the state at a time of a past with one call more
state_early : (past : List Moment) (moment : Moment) (state : State) (time : ℕ) → time ≤ length past
    → begin_of (drop time (past ++ moment ∷ [])) state ≡ begin_of (drop time past) moment.before
state_early past moment state time early =
    ap (λ (p : List Moment). begin_of p state) (drop-append-le time past (moment ∷ []) early) ∙ begins_alike (drop time past) moment state

pub state_now : (seen : Seen) → state_at seen (clock seen) ≡ seen.state
state_now seen = ap (λ (p : List Moment). begin_of p seen.state) (drop-length seen.past)

-- what a power cut now could leave
pub now_left : (seen : Seen) (time : ℕ) (pair : Pair) → time ≡ clock seen → Leaves seen.state pair → LeftTowards seen time pair
now_left seen zero pair is leaves =
    subst (λ (s : State). Leaves s pair) (sym (ap (λ (t : ℕ). state_at seen t) is ∙ state_now seen)) leaves
now_left seen (suc time) pair is leaves =
    inr (subst (λ (s : State). Leaves s pair) (sym (ap (λ (t : ℕ). state_at seen t) is ∙ state_now seen)) leaves)

-- what a power cut could leave in the last call
pub last_left : (seen : Seen) (past : List Moment) (moment : Moment) (pair : Pair) → seen.past ≡ past ++ moment ∷ [] → LeftAt pair moment
    → LeftTowards seen (clock seen) pair
last_left seen past moment pair is left =
    let long : clock seen ≡ suc (length past) = (let e = ap length is in omega (arith, e, length-append past (moment ∷ []))) in
    let there : slice_get seen.past (length past) ≡ Some moment =
    ap (λ (p : List Moment). slice_get p (length past)) is ∙ slice_get-seam past (moment ∷ []) in
    subst (λ (t : ℕ). LeftTowards seen t pair) (sym long) (inl (moment, there, left))

-- what a power cut could leave before a step, it could have left towards the time after it
pub Extends-now : (old new : Seen) (pair : Pair) → Extends old new → Leaves old.state pair → LeftTowards new (clock new) pair
Extends-now old new pair extends leaves = by extends.goes
  where
    by : Continues old new → LeftTowards new (clock new) pair
    by (begins moment before past) =
        last_left new old.past moment pair past (inl (subst (λ (s : State). Leaves s pair) (sym before) leaves))
    by (goes_on past was is before old_is new_is left) = last_left new past is pair new_is (left pair (inl leaves))
    by (rests past state) = now_left new (clock new) pair refl (subst (λ (s : State). Leaves s pair) (sym state) leaves)

-- ---- what could have been left stays so

-- a time at which both sites have the same call after them and the same state
same_there : (old new : Seen) (time : ℕ) (pair : Pair) → state_at new time ≡ state_at old time
    → ((before : ℕ) (moment : Moment) → time ≡ suc before → slice_get old.past before ≡ Some moment → slice_get new.past before ≡ Some moment)
    → LeftTowards old time pair → LeftTowards new time pair
same_there old new zero pair state calls leaves = subst (λ (s : State). Leaves s pair) (sym state) leaves
same_there old new (suc time) pair state calls (inl (moment, there, left)) = inl (moment, calls time moment refl there, left)
same_there old new (suc time) pair state calls (inr leaves) = inr (subst (λ (s : State). Leaves s pair) (sym state) leaves)

same_call : (past : List Moment) (was is : Moment) (before : ℕ) (moment : Moment) → before < length past
    → slice_get (past ++ was ∷ []) before ≡ Some moment → slice_get (past ++ is ∷ []) before ≡ Some moment
same_call past was is before moment early there =
    slice_get-early past (is ∷ []) before early ∙ sym (slice_get-early past (was ∷ []) before early) ∙ there

early_or_last : (time last : ℕ) → time ≤ suc last → (time ≤ last) ⊎ (time ≡ suc last)
early_or_last time last within = elim (eqb_tells time (suc last)) [ inl same ↦ inr same.1 | inr other ↦ inl (let d = other.1 in omega arith) ]

-- the last call goes on
last_goes_on : (old new : Seen) (past : List Moment) (was is : Moment) (time : ℕ) (pair : Pair) → is.before ≡ was.before
    → old.past ≡ past ++ was ∷ [] → new.past ≡ past ++ is ∷ [] → ((pair : Pair) → Leaves old.state pair ⊎ LeftAt pair was → LeftAt pair is)
    → time ≤ suc (length past) → LeftTowards old time pair → LeftTowards new time pair
last_goes_on old new past was is time pair before old_is new_is left within towards = by (early_or_last time (length past) within)
  where
    state : time ≤ length past → state_at new time ≡ state_at old time
    state early =
        ap (λ (p : List Moment). begin_of (drop time p) new.state) new_is ∙ state_early past is new.state time early
        ∙ ap (λ (s : State). begin_of (drop time past) s) before
        ∙ sym (ap (λ (p : List Moment). begin_of (drop time p) old.state) old_is ∙ state_early past was old.state time early)

    -- at the last time, the call that ends there is the one that goes on
    at_last : (t : ℕ) → t ≡ suc (length past) → LeftTowards old t pair → LeftAt pair is
    at_last zero none towards = absurd (omega (arith, none))
    at_last (suc t) same (inl (moment, there, at)) =
        let t_is : t ≡ length past = omega (arith, same) in
        let here : slice_get old.past (length past) ≡ Some was =
        ap (λ (p : List Moment). slice_get p (length past)) old_is ∙ slice_get-seam past (was ∷ []) in
        let one : moment ≡ was = (let e : Some moment ≡ Some was = sym there ∙ ap (λ (n : ℕ). slice_get old.past n) t_is ∙ here in cc) in
        left pair (inr (subst (LeftAt pair) one at))
    at_last (suc t) same (inr leaves) =
        let long : clock old ≡ suc (length past) = (let e = ap length old_is in omega (arith, e, length-append past (was ∷ []))) in
        left pair (inl (subst (λ (s : State). Leaves s pair) (ap (λ (n : ℕ). state_at old n) (same ∙ sym long) ∙ state_now old) leaves))

    by : (time ≤ length past) ⊎ (time ≡ suc (length past)) → LeftTowards new time pair
    by (inl early) =
        same_there old new time pair (state early)
        (λ earlier moment is_next there. ap (λ (p : List Moment). slice_get p earlier) new_is
        ∙ same_call past was is earlier moment (omega (arith, early, is_next)) (sym (ap (λ (p : List Moment). slice_get p earlier) old_is) ∙ there)) towards
    by (inr same) =
        let long : clock new ≡ suc (length past) = (let e = ap length new_is in omega (arith, e, length-append past (is ∷ []))) in
        subst (λ (t : ℕ). LeftTowards new t pair) (long ∙ sym same) (last_left new past is pair new_is (at_last time same towards))

pub Extends-towards : (old new : Seen) (time : ℕ) (pair : Pair) → Extends old new → time ≤ clock old → LeftTowards old time pair
    → LeftTowards new time pair
Extends-towards old new time pair extends within towards = by extends.goes
  where
    by : Continues old new → LeftTowards new time pair
    by (begins moment before past) =
        same_there old new time pair
        (ap (λ (p : List Moment). begin_of (drop time p) new.state) past ∙ state_early old.past moment new.state time within
        ∙ ap (λ (s : State). begin_of (drop time old.past) s) before)
        (λ earlier call is_next there. ap (λ (p : List Moment). slice_get p earlier) past
        ∙ slice_get-early old.past (moment ∷ []) earlier (omega (arith, within, is_next)) ∙ there) towards
    by (goes_on past was is before old_is new_is left) =
        last_goes_on old new past was is time pair before old_is new_is left
        (let e = ap length old_is in omega (arith, within, e, length-append past (was ∷ []))) towards
    by (rests past state) =
        same_there old new time pair
        (ap (λ (p : List Moment). begin_of (drop time p) new.state) past ∙ ap (λ (s : State). begin_of (drop time old.past) s) state)
        (λ earlier call is_next there. ap (λ (p : List Moment). slice_get p earlier) past ∙ there) towards

-- no step takes the clock back
pub Extends-clock : (old new : Seen) → Extends old new → clock old ≤ clock new
Extends-clock old new extends = by extends.goes
  where
    by : Continues old new → clock old ≤ clock new
    by (begins moment before past) = let e = ap length past in omega (arith, e, length-append old.past (moment ∷ []))
    by (goes_on past was is before old_is new_is left) =
        let e = ap length old_is in let f = ap length new_is in omega (arith, e, f, length-append past (was ∷ []), length-append past (is ∷ []))
    by (rests past state) = let e = ap length past in omega (arith, e)

pub Extends-first : (old new : Seen) → Extends old new → first_of new ≡ first_of old
Extends-first old new extends = by extends.goes
  where
    by : Continues old new → first_of new ≡ first_of old
    by (begins moment before past) =
        ap (λ (p : List Moment). begin_of p new.state) past ∙ begins_alike old.past moment new.state ∙ ap (λ (s : State). begin_of old.past s) before
    by (goes_on past was is before old_is new_is left) =
        ap (λ (p : List Moment). begin_of p new.state) new_is ∙ begins_alike past is new.state ∙ ap (λ (s : State). begin_of past s) before
        ∙ sym (ap (λ (p : List Moment). begin_of p old.state) old_is ∙ begins_alike past was old.state)
    by (rests past state) = ap (λ (p : List Moment). begin_of p new.state) past ∙ ap (λ (s : State). begin_of old.past s) state

-- ---- what could have been left towards some time

at_call : (past : List Moment) (time : ℕ) (moment : Moment) (pair : Pair) → slice_get past time ≡ Some moment → LeftAt pair moment → Any (LeftAt pair) past
at_call [] time moment pair there left = absurd cc
at_call (m ∷ past) zero moment pair there left =
    let same : m ≡ moment = cc in Any-first (LeftAt pair) m past (subst (LeftAt pair) (sym same) left)
at_call (m ∷ past) (suc time) moment pair there left = Any-later (LeftAt pair) m past (at_call past time moment pair there left)

at_state : (past : List Moment) (state : State) (time : ℕ) (pair : Pair) → Leaves (begin_of (drop time past) state) pair
    → Leaves state pair ⊎ Any (LeftAt pair) past
at_state [] state zero pair leaves = inl leaves
at_state [] state (suc time) pair leaves = inl leaves
at_state (m ∷ past) state zero pair leaves = inr (Any-first (LeftAt pair) m past (inl leaves))
at_state (m ∷ past) state (suc time) pair leaves = elim (at_state past state time pair leaves) [
  | inl now ↦ inl now
  | inr was ↦ inr (Any-later (LeftAt pair) m past was)
]

pub towards_since : (seen : Seen) (time : ℕ) (pair : Pair) → LeftTowards seen time pair → LeftSince seen 0 pair
towards_since seen zero pair leaves = at_state seen.past seen.state 0 pair leaves
towards_since seen (suc time) pair (inl (moment, there, left)) = inr (at_call seen.past time moment pair there left)
towards_since seen (suc time) pair (inr leaves) = at_state seen.past seen.state (suc time) pair leaves
