-- What a site could have left since one time of its clock, seen from a later one.
use Rattle.std.proofs.Common.{◌≡◌, ◌⊎◌, ◌∙◌, ℕ, zero, suc, ◌<◌, ◌≤◌, List, [], ◌∷◌, drop, Any, Some, slice_get}
use Rattle.std.proofs.Common.{refl, sym, ap, subst, inl, inr, arith}
use Rattle.std.specs.Prelude.{unwrap_or}
use Rattle.std.specs.Option.{option_map}
use Rattle.site_core.specs.State.{State, Seen, Pair, Moment, Leaves, LeftAt, LeftSince, clock}
use Rattle.site_core.specs.Times.{Instant, instant_of, now_of, instant_at, Follows}
use Rattle.site_core.proofs.Times.{instant-stays, slice_get-early}
use Rattle.site_core.proofs.Moments.{Any-first, Any-later}
use Rattle.site_shadow.specs.Following.{begin_of, state_at, LeftTowards}

instant_by : (past : List Moment) (time : ℕ) (now : Instant) → begin_of (drop time past) now.state ≡ (unwrap_or (option_map instant_of (slice_get past time)) now).state
instant_by [] zero now = refl
instant_by [] (suc time) now = refl
instant_by (m ∷ past) zero now = refl
instant_by (m ∷ past) (suc time) now = instant_by past time now

-- the state at a time is that of the instant
state_is : (seen : Seen) (time : ℕ) → state_at seen time ≡ (instant_at seen time).state
state_is seen time = instant_by seen.past time (now_of seen)

pub state_then : (a b : Seen) → Follows a b → state_at b (clock a) ≡ a.state
state_then a b follows = state_is b (clock a) ∙ ap (λ (i : Instant). i.state) follows.goes_on

at_call : (past : List Moment) (from time : ℕ) (moment : Moment) (pair : Pair) → from ≤ time → slice_get past time ≡ Some moment → LeftAt pair moment
    → Any (LeftAt pair) (drop from past)
at_call [] from time moment pair early there left = absurd cc
at_call (m ∷ past) zero zero moment pair early there left =
    let same : m ≡ moment = cc in Any-first (LeftAt pair) m past (subst (LeftAt pair) (sym same) left)
at_call (m ∷ past) zero (suc time) moment pair early there left = Any-later (LeftAt pair) m past (at_call past zero time moment pair (omega arith) there left)
at_call (m ∷ past) (suc from) zero moment pair early there left = absurd (omega (arith, early))
at_call (m ∷ past) (suc from) (suc time) moment pair early there left = at_call past from time moment pair (omega (arith, early)) there left

at_state : (past : List Moment) (state : State) (from time : ℕ) (pair : Pair) → from ≤ time → Leaves (begin_of (drop time past) state) pair
    → Leaves state pair ⊎ Any (LeftAt pair) (drop from past)
at_state [] state from zero pair early leaves = inl leaves
at_state [] state from (suc time) pair early leaves = inl leaves
at_state (m ∷ past) state zero zero pair early leaves = inr (Any-first (LeftAt pair) m past (inl leaves))
at_state (m ∷ past) state zero (suc time) pair early leaves = elim (at_state past state zero time pair (omega arith) leaves) [
  | inl now ↦ inl now
  | inr was ↦ inr (Any-later (LeftAt pair) m past was)
]
at_state (m ∷ past) state (suc from) zero pair early leaves = absurd (omega (arith, early))
at_state (m ∷ past) state (suc from) (suc time) pair early leaves = at_state past state from time pair (omega (arith, early)) leaves

-- what a power cut could leave at first
pub since_first : (mid next : Seen) (pair : Pair) → Follows mid next → Leaves mid.state pair → LeftSince next (clock mid) pair
since_first mid next pair follows leaves =
    at_state next.past next.state (clock mid) (clock mid) pair (omega arith)
    (subst (λ (s : State). Leaves s pair) (sym (state_then mid next follows)) leaves)

-- what it could leave towards a time in between
pub since_towards : (mid next end : Seen) (time : ℕ) (pair : Pair) → Follows next end → clock mid < time → time ≤ clock next
    → LeftTowards end time pair → LeftSince next (clock mid) pair
since_towards mid next end zero pair on later within towards = absurd (omega (arith, later))
since_towards mid next end (suc time) pair on later within (inl (moment, there, left)) =
    let here : slice_get next.past time ≡ Some moment =
    sym (slice_get-early next.past on.calls time (omega (arith, within))) ∙ sym (ap (λ (p : List Moment). slice_get p time) on.past) ∙ there in
    inr (at_call next.past (clock mid) time moment pair (omega (arith, later)) here left)
since_towards mid next end (suc time) pair on later within (inr leaves) =
    let same : state_at end (suc time) ≡ state_at next (suc time) =
    state_is end (suc time) ∙ ap (λ (i : Instant). i.state) (instant-stays next end (suc time) on within) ∙ sym (state_is next (suc time)) in
    at_state next.past next.state (clock mid) (suc time) pair (omega (arith, later)) (subst (λ (s : State). Leaves s pair) same leaves)
