-- What a power cut leaves of real slaves between two calls, at each time of the site's clock.
use Rattle.std.proofs.Common.{◌≡◌, ◌⊎◌, ◌∙◌, ℕ, ◌+◌, ◌<◌, ◌≤◌, Bool, true, false, List, [], ◌∷◌, ◌++◌, length, drop, take, get_or, Some, slice_get}
use Rattle.std.proofs.Common.{refl, sym, ap, subst, inl, inr, arith, length-append}
use Rattle.std.proofs.lemmas.Bool.Decides.{eqb_tells}
use Rattle.std.proofs.lemmas.List.{drop-append-le, take-append-le, take_all}
use Rattle.std.proofs.lemmas.Option.{slice_get-get_or, slice_get_within}
use Rattle.esc_model.specs.SlaveHalf.{SlaveHalf}
use Rattle.site_core.specs.State.{State, Seen, Moment, clock}
use Rattle.site_core.proofs.Times.{slice_get-early, slice_get-seam}
use Rattle.site_shadow.specs.Following as shadow
use Rattle.site_shadow.specs.Following.{begin_of, first_of, state_at, Extends}
use Rattle.site_shadow.proofs.Towards.{state_now, Extends-first}
use Rattle.site_wire.specs.Sent.{Exchanged}
use Rattle.site_wire.specs.Moments.{LeavesHalves, Doing, sent_by, IsBetween, LeavesBetween}
use Rattle.site_wire.proofs.Behind.{ran_before}

-- THE STATE AT A TIME

one_more : (past : List Moment) (moment : Moment) (state : State) (time : ℕ) → time ≤ length past
    → begin_of (drop time (past ++ moment ∷ [])) state ≡ begin_of (drop time past) moment.before
one_more past moment state time early = ap (λ (p : List Moment). begin_of p state) (drop-append-le time past (moment ∷ []) early) ∙ alike (drop time past)
  where
    alike : (before : List Moment) → begin_of (before ++ moment ∷ []) state ≡ begin_of before moment.before
    alike [] = refl
    alike (m ∷ before) = refl

state_stays : (old new : Seen) (time : ℕ) → Extends old new → time ≤ clock old → time < clock new → state_at new time ≡ state_at old time
state_stays old new time extends within early = by extends.goes
  where
    by : shadow.Continues old new → state_at new time ≡ state_at old time
    by (shadow.begins moment before past) =
        ap (λ (p : List Moment). begin_of (drop time p) new.state) past ∙ one_more old.past moment new.state time within
        ∙ ap (λ (s : State). begin_of (drop time old.past) s) before
    by (shadow.goes_on past was is before old_is new_is left) =
        let inside : time ≤ length past = (let e = ap length new_is in omega (arith, early, e, length-append past (is ∷ []))) in
        ap (λ (p : List Moment). begin_of (drop time p) new.state) new_is ∙ one_more past is new.state time inside
        ∙ ap (λ (s : State). begin_of (drop time past) s) before
        ∙ sym (ap (λ (p : List Moment). begin_of (drop time p) old.state) old_is ∙ one_more past was old.state time inside)
    by (shadow.rests past state) =
        ap (λ (p : List Moment). begin_of (drop time p) new.state) past ∙ ap (λ (s : State). begin_of (drop time old.past) s) state

-- a step is at most one call
clock_next : (old new : Seen) → Extends old new → clock new ≤ clock old + 1
clock_next old new extends = by extends.goes
  where
    by : shadow.Continues old new → clock new ≤ clock old + 1
    by (shadow.begins moment before past) = let e = ap length past in omega (arith, e, length-append old.past (moment ∷ []))
    by (shadow.goes_on past was is before old_is new_is left) =
        let e = ap length old_is in let f = ap length new_is in omega (arith, e, f, length-append past (was ∷ []), length-append past (is ∷ []))
    by (shadow.rests past state) = let e = ap length past in omega (arith, e)

early_or_now : (time now : ℕ) → time ≤ now → (time < now) ⊎ (time ≡ now)
early_or_now time now within = elim (eqb_tells time now) [ inl same ↦ inr same.1 | inr other ↦ inl (let d = other.1 in omega arith) ]

-- nothing was done in the beginning
abbrev pub start : Doing
start = record { time = 0; asked = []; sent = [] }

-- what is done by now is at an end now
all_ended : (all : List Doing) (place time : ℕ) → ((k : ℕ) (one : Doing) → slice_get all k ≡ Some one → one.time ≤ time) → IsBetween all place time
    → place ≡ length all
all_ended all place time early between = elim (early_or_now place (length all) between.inside) [
  | inl less ↦ absurd (
      let here = slice_get-get_or all place start less in
      let late = between.later place (get_or all place start) (omega arith) here in
      let soon = early place (get_or all place start) here in omega (arith, late, soon))
  | inr same ↦ same
]

-- Between two calls, as long as the site went on; whether the device is over or not.
abbrev pub LeavesThen : List Doing → Seen → Type 0
LeavesThen all seen = (place time : ℕ) → IsBetween all place time → time ≤ clock seen → (place < length all) ⊎ (seen.is_stopped ≡ false)
    → LeavesHalves (sent_by (take place all)) (first_of seen).halves (state_at seen time).halves

pub while_going : (is_over : Bool) (all : List Doing) (seen : Seen) → LeavesThen all seen → LeavesBetween is_over all seen
while_going is_over all seen leave place time between within alive =
    leave place time between within (elim alive [ inl inside ↦ inl inside | inr both ↦ inr both.1 ])

-- then no time lies before it
not_before : (place time : ℕ) → IsBetween (start ∷ []) place time → place ≡ 1
not_before place time between = elim (early_or_now place 1 between.inside) [
  | inl less ↦ absurd (let late = between.later 0 start (omega (arith, less)) refl in omega (arith, late))
  | inr same ↦ same
]

pub begins_between : (seen : Seen) → clock seen ≡ 0 → LeavesHalves [] (first_of seen).halves seen.state.halves → LeavesThen (start ∷ []) seen
begins_between seen new leave place time between within alive =
    subst (λ (s : State). LeavesHalves (sent_by (take place (start ∷ []))) (first_of seen).halves s.halves)
    (sym (ap (state_at seen) (let is : time ≡ clock seen = omega (arith, within, new) in is) ∙ state_now seen))
    (subst (λ (n : ℕ). LeavesHalves (sent_by (take n (start ∷ []))) (first_of seen).halves seen.state.halves) (sym (not_before place time between)) leave)

-- a device that is over from the beginning
pub refuses_between : (is_over : Bool) (seen : Seen) → is_over ≡ true → LeavesBetween is_over (start ∷ []) seen
refuses_between is_over seen over place time between within alive = elim alive [
  | inl inside ↦ absurd (let all = not_before place time between in omega (arith, inside, all))
  | inr both ↦ absurd (let e : true ≡ false = sym over ∙ both.0 in cc)
]

module _ (old new : Seen) (extends : Extends old new) (all : List Doing)
    (early : (k : ℕ) (one : Doing) → slice_get all k ≡ Some one → one.time ≤ clock old) (was : LeavesThen all old) where
  from_first : (sent : List Exchanged) (now : List SlaveHalf) → LeavesHalves sent (first_of old).halves now → LeavesHalves sent (first_of new).halves now
  from_first sent now = subst (λ (begun : State). LeavesHalves sent begun.halves now) (sym (Extends-first old new extends))

  -- before the call that ends now
  before_now : (place time : ℕ) → IsBetween all place time → time < clock new → (place < length all) ⊎ (old.is_stopped ≡ false)
      → LeavesHalves (sent_by (take place all)) (first_of new).halves (state_at new time).halves
  before_now place time between less alive =
      let within : time ≤ clock old = (let next = clock_next old new extends in omega (arith, less, next)) in
      subst (λ (s : State). LeavesHalves (sent_by (take place all)) (first_of new).halves s.halves) (sym (state_stays old new time extends within less))
      (from_first (sent_by (take place all)) (state_at old time).halves (was place time between within alive))

  -- at the site's clock, as long as it goes on
  at_now : (done : List Doing) (place time : ℕ) → time ≡ clock new → place ≡ length done → LeavesHalves (sent_by done) (first_of new).halves new.state.halves
      → LeavesHalves (sent_by (take place done)) (first_of new).halves (state_at new time).halves
  at_now done place time now last leave =
      subst (λ (s : State). LeavesHalves (sent_by (take place done)) (first_of new).halves s.halves) (sym (ap (state_at new) now ∙ state_now new))
      (subst (λ (l : List Doing). LeavesHalves (sent_by l) (first_of new).halves new.state.halves) (sym (take_all place done (omega (arith, last)))) leave)

  -- nothing more is done
  pub still_between : clock old ≤ clock new → (new.is_stopped ≡ false → LeavesHalves (sent_by all) (first_of new).halves new.state.halves) → LeavesThen all new
  still_between on leave place time between within alive = elim (early_or_now time (clock new) within) [
    | inl less ↦ before_now place time between less (elim alive [ inl inside ↦ inl inside | inr running ↦ inr (ran_before old new extends running) ])
    | inr now ↦
        let last : place ≡ length all =
        all_ended all place time (λ k one is. let soon = early k one is in omega (arith, soon, on, now)) between in
        elim alive [
          | inl inside ↦ absurd (omega (arith, inside, last))
          | inr running ↦ at_now all place time now last (leave running)
        ]
  ]

  -- this is done, and ends now
  module _ (one : Doing) (at : one.time ≡ clock new) (ran : old.is_stopped ≡ false)
      (leave : new.is_stopped ≡ false → LeavesHalves (sent_by (all ++ one ∷ [])) (first_of new).halves new.state.halves) where
    count : length (all ++ one ∷ []) ≡ length all + 1
    count = length-append all (one ∷ [])

    last_is : slice_get (all ++ one ∷ []) (length all) ≡ Some one
    last_is = slice_get-seam all (one ∷ [])

    pub more_between : LeavesThen (all ++ one ∷ []) new
    more_between place time between within alive = elim (early_or_now place (length all + 1) (let inside = between.inside in omega (arith, inside, count))) [
      | inl less ↦
          let now = between.later (length all) one (omega (arith, less)) last_is in
          let earlier : IsBetween all place time = record {
            earlier = λ k it inside is. between.earlier k it inside (slice_get-early all (one ∷ []) k (slice_get_within all k it is) ∙ is);
            later = λ k it late is. between.later k it late (slice_get-early all (one ∷ []) k (slice_get_within all k it is) ∙ is);
            inside = omega (arith, less);
          } in
          subst (λ (l : List Doing). LeavesHalves (sent_by l) (first_of new).halves (state_at new time).halves)
          (sym (take-append-le place all (one ∷ []) (omega (arith, less)))) (before_now place time earlier (omega (arith, now, at)) (inr ran))
      | inr last ↦
          let soon = between.earlier (length all) one (omega (arith, last)) last_is in
          let now : time ≡ clock new = omega (arith, soon, at, within) in
          elim alive [
            | inl inside ↦ absurd (omega (arith, inside, last, count))
            | inr running ↦ at_now (all ++ one ∷ []) place time now (last ∙ sym count) (leave running)
          ]
    ]
