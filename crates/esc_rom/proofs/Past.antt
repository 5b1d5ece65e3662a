-- The EEPROM half of a slave at each time of the past.
use Rattle.std.proofs.Common.{◌≡◌, ℕ, ◌+◌, ◌<◌, ◌≤◌, Some, slice_get, refl, sym, ap, subst, ◌∙◌, inl, inr, arith}
use Rattle.std.proofs.lemmas.Bool.Decides.{eqb_tells}
use Rattle.ecat_frame.specs.Frame.{Pdu}
use Rattle.esc_model.specs.SlaveHalf.{SlaveHalf}
use Rattle.site_core.specs.State.{Seen, clock}
use Rattle.site_core.specs.Times.{Instant, instant_at, FailsAt, Follows}
use Rattle.site_core.proofs.Times.{instant-stays, instant-now, FailsAt-stays}
use Rattle.esc_rom.specs.Past.{HalfAt, HalfWent, AreLost, IsUncounted, AreUncounted, PollsInVain, MissesIdle, NeverIdle, WaitsInVain, EndsTry, still_busy, command_lost, in_error, words_lost, FailTries, no_try, one_more_try}
use Rattle.esc_rom.specs.Runs.{Ran}
use Rattle.esc_rom.proofs.Runs.{Ran-weaker}

-- now and, where calls followed, then
pub HalfAt-now : (seen : Seen) (slave time : ℕ) (half : SlaveHalf) → time ≡ clock seen → slice_get seen.state.halves slave ≡ Some half → HalfAt seen slave time half
HalfAt-now seen slave time half is here = ap (λ (i : Instant). slice_get i.state.halves slave) (instant-now seen time is) ∙ here

pub HalfAt-stays : (a b : Seen) (slave time : ℕ) (half : SlaveHalf) → Follows a b → time ≤ clock a → HalfAt a slave time half → HalfAt b slave time half
HalfAt-stays a b slave time half follows early here = ap (λ (i : Instant). slice_get i.state.halves slave) (instant-stays a b time follows early) ∙ here

pub HalfAt-then : (a b : Seen) (slave : ℕ) (half : SlaveHalf) → Follows a b → slice_get a.state.halves slave ≡ Some half → HalfAt b slave (clock a) half
HalfAt-then a b slave half follows here = HalfAt-stays a b slave (clock a) half follows (omega arith) (HalfAt-now a slave (clock a) half refl here)

pub HalfWent-stays : {R W : SlaveHalf → SlaveHalf → Type 0} (a b : Seen) (slave from end : ℕ) → Follows a b → from ≤ clock a → end ≤ clock a
    → ((half later : SlaveHalf) → R half later → W half later) → HalfWent R a slave from end → HalfWent W b slave from end
HalfWent-stays a b slave from end follows before early weaker went = record {
  half = went.half;
  later = went.later;
  first = HalfAt-stays a b slave from went.half follows before went.first;
  last = HalfAt-stays a b slave end went.later follows early went.last;
  goes = weaker went.half went.later went.goes;
}

-- a run, with the half that the past has at its beginning
pub Ran-tied : {R : SlaveHalf → SlaveHalf → Type 0} {a b : Seen} {slave most : ℕ} → Ran R a slave most b → Ran (λ half later. HalfAt b slave (clock a) half × R half later) a slave most b
Ran-tied {a = a} {b = b} {slave = slave} ran = Ran-weaker (omega arith) (λ half later here there goes. (HalfAt-then a b slave half ran.quiet.follows here, goes)) ran

-- and with the half that it has at its end
pub Ran-went : {R : SlaveHalf → SlaveHalf → Type 0} {a b : Seen} {slave most : ℕ} → Ran R a slave most b → Ran (λ half later. HalfAt b slave (clock a) half × HalfAt b slave (clock b) later × R half later) a slave most b
Ran-went {a = a} {b = b} {slave = slave} ran =
    Ran-weaker (omega arith) (λ half later here there goes. (HalfAt-then a b slave half ran.quiet.follows here, HalfAt-now b slave (clock b) later refl there, goes)) ran

-- the last call failed
pub FailsAt-last : (a b : Seen) → Follows a b → clock b ≡ clock a + 1 → a.faults < b.faults → FailsAt b (clock a)
FailsAt-last a b follows one more =
    let first : (instant_at b (clock a)).faults ≡ a.faults = ap (λ (i : Instant). i.faults) follows.goes_on in
    let second : (instant_at b (clock a + 1)).faults ≡ b.faults = ap (λ (i : Instant). i.faults) (instant-now b (clock a + 1) (sym one)) in
    omega arith

-- IN A ROW

more_in_row : (P : ℕ → Type 0) (from times now : ℕ) → now ≡ from + times → ((k : ℕ) → k < times → P (from + k)) → P now → (k : ℕ) → k < times + 1 → P (from + k)
more_in_row P from times now is so last k below = elim (eqb_tells k times) [
  | inl same ↦ let e : now ≡ from + k = let s = same.1 in omega arith in subst P e last
  | inr other ↦ so k (let o = other.1 in omega arith)
]

pub AreLost-more : (a b : Seen) (from times : ℕ) → Follows a b → clock a ≡ from + times → AreLost a from times → FailsAt b (clock a) → AreLost b from (times + 1)
AreLost-more a b from times follows is lost last =
    more_in_row (FailsAt b) from times (clock a) is (λ k below. FailsAt-stays a b (from + k) follows (omega arith) (lost k below)) last

pub AreUncounted-more : (order : Pdu) (a b : Seen) (slave from times : ℕ) → Follows a b → clock a ≡ from + times → AreUncounted order a slave from times → IsUncounted order b slave (clock a)
    → AreUncounted order b slave from (times + 1)
AreUncounted-more order a b slave from times follows is uncounted last = more_in_row (IsUncounted order b slave) from times (clock a) is (λ k below. stays k below (uncounted k below)) last
  where
    stays : (k : ℕ) → k < times → IsUncounted order a slave (from + k) → IsUncounted order b slave (from + k)
    stays k below was =
        HalfWent-stays a b slave (from + k) (from + k + 1) follows (omega arith) (omega arith)
        (λ half later why. elim why [ inl lost ↦ inl (FailsAt-stays a b (from + k) follows (omega arith) lost.0, lost.1) | inr refuses ↦ inr refuses ]) was

pub PollsInVain-more : (a b : Seen) (slave from times : ℕ) → Follows a b → clock a ≡ from + times → PollsInVain a slave from times → MissesIdle b slave (clock a) → PollsInVain b slave from (times + 1)
PollsInVain-more a b slave from times follows is polls last =
    more_in_row (MissesIdle b slave) from times (clock a) is (λ k below. misses_stays k below (polls k below)) last
  where
    misses_stays : (k : ℕ) → k < times → MissesIdle a slave (from + k) → MissesIdle b slave (from + k)
    misses_stays k below misses =
        HalfWent-stays a b slave (from + k) (from + k + 1) follows (omega arith) (omega arith)
        (λ half later m. (m.0, elim m.1 [ inl fails ↦ inl (FailsAt-stays a b (from + k) follows (omega arith) fails) | inr why ↦ inr why ])) misses

-- the wait is that of the last calls, also where others came before it
pub NeverIdle-waited : (a b c : Seen) (slave : ℕ) → clock a ≤ clock b → WaitsInVain b slave c → NeverIdle a slave c
NeverIdle-waited a b c slave after waits = record { from = clock b; after = after; clock = waits.clock; polls = waits.polls }

pub NeverIdle-after : (a b c : Seen) (slave : ℕ) → clock a ≤ clock b → NeverIdle b slave c → NeverIdle a slave c
NeverIdle-after a b c slave after never = record { from = never.from; after = let w : clock b ≤ never.from = never.after in omega arith; clock = never.clock; polls = never.polls }

-- TRIES

EndsTry-stays : (a b : Seen) (slave word from end : ℕ) → Follows a b → from < clock a → end ≤ clock a → (half later : SlaveHalf) → EndsTry a slave word from end half later → EndsTry b slave word from end half later
EndsTry-stays a b slave word from end follows before early half later (still_busy busy same) = still_busy busy same
EndsTry-stays a b slave word from end follows before early half later (command_lost fails took) = command_lost (FailsAt-stays a b from follows before fails) took
EndsTry-stays a b slave word from end follows before early half later (in_error counts rests idle error) = in_error counts rests idle error
EndsTry-stays a b slave word from end follows before early half later (words_lost time counts rests well after last fails) =
    words_lost time counts rests well after last (FailsAt-stays a b time follows (omega arith) fails)

pub FailTries-later : (seen : Seen) (slave word from times end : ℕ) → FailTries seen slave word from times end → from ≤ end
FailTries-later seen slave word from times end no_try = omega arith
FailTries-later seen slave word from times end (one_more_try {times = before} {mid = mid} tries fails) =
    let so : from ≤ mid = FailTries-later seen slave word from before mid tries in let some : mid < end = fails.some in omega arith

pub FailTries-stays : (a b : Seen) (slave word from times end : ℕ) → Follows a b → end ≤ clock a → FailTries a slave word from times end → FailTries b slave word from times end
FailTries-stays a b slave word from times end follows early no_try = no_try
FailTries-stays a b slave word from times end follows early (one_more_try {times = before} {mid = mid} tries fails) =
    let some : mid < end = fails.some in
    one_more_try (FailTries-stays a b slave word from before mid follows (omega arith) tries) (record {
      some = fails.some;
      within = fails.within;
      ends = HalfWent-stays a b slave mid end follows (omega arith) early (EndsTry-stays a b slave word mid end follows (omega arith) early) fails.ends;
    })
