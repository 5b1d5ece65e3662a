-- Clearing the errors of a half, and the outcomes of `settle`.
use Rattle.std.proofs.Common.{◌≡◌, ℕ, ◌+◌, ◌<◌, Bool, IsTrue, Result, Ok, Err, Some, None, refl, sym, ap, subst, ◌∙◌, inl, inr, arith}
use Rattle.esc_model.specs.Registers.{access_byte}
use Rattle.esc_model.specs.SlaveHalf.{SlaveHalf}
use Rattle.esc_model.specs.Datagrams.{Receives}
use Rattle.esc_model.specs.Orders.{clear_order}
use Rattle.esc_model.specs.WordAccess.{IsAt, IsIdle, OnlyRests}
use Rattle.esc_model.proofs.Resting.{MayRest-idle, MayRest-access}
use Rattle.esc_model.proofs.OnlyResting.{OnlyRests-same, OnlyRests-then, MayRest-only, Receives-only}
use Rattle.esc_model.proofs.Writing.{clear_only, clear_gentle, clear_access}
use Rattle.esc_model.proofs.WordWriting.{well_is_written}
use Rattle.site_core.specs.declared.fault.DeviceFault.{DeviceFault}
use Rattle.site_core.specs.declared.fault.DeviceFault.TheVariants as device
use Rattle.site_core.specs.declared.answers.Settled.{Settled}
use Rattle.site_core.specs.declared.answers.Settled.TheVariants as settles
use Rattle.site_core.specs.State.{Seen, HalfGoes, clock}
use Rattle.site_core.proofs.Times.{Follows-clock}
use Rattle.rom_steps.specs.declared.back.Rested.{Rested}
use Rattle.rom_steps.specs.declared.back.Rested.TheVariants.{Well, Failed}
use Rattle.esc_rom.specs.Runs.{Ran, StopsQuietly, IsSeen, Waited, Wrote}
use Rattle.esc_rom.specs.Past.{HalfAt}
use Rattle.esc_rom.specs.Access.{BecomesSettled, SettlesSlave}
use Rattle.esc_rom.proofs.Runs.{Ran-then, Ran-weaker}
use Rattle.esc_rom.proofs.Past.{Ran-tied}
use Rattle.esc_rom.proofs.Writes.{wrote_receives}
use Rattle.esc_rom.proofs.Clearing.{clears_errors}

-- CLEARING

pub record Clears (half later : SlaveHalf) : Type 0 where
  pub only : OnlyRests half later
  pub idle : IsIdle half → IsIdle later
  pub access : access_byte half.registers ≡ 0 → access_byte later.registers ≡ 0

pub clears_same : (half : SlaveHalf) → Clears half half
clears_same half = record { only = OnlyRests-same half; idle = λ idle. idle; access = λ zero. zero }

pub clears_then : (half mid later : SlaveHalf) → Clears half mid → Clears mid later → Clears half later
clears_then half mid later first second =
    record { only = OnlyRests-then half mid later first.only second.only; idle = λ idle. second.idle (first.idle idle); access = λ zero. second.access (first.access zero) }

pub clears_receives : (slave : ℕ) → slave < 64 → (half later : SlaveHalf) → Receives (clear_order slave) half later → Clears half later
clears_receives slave near half later receives = record {
  only = Receives-only (clear_order slave) half later (clear_gentle slave near) receives;
  idle = λ idle. ap (λ (h : SlaveHalf). h.activity) receives.is ∙ (clear_only receives.rested slave near).activity ∙ ap (λ (h : SlaveHalf). h.activity) (MayRest-idle half receives.rested idle receives.rests) ∙ idle;
  access = λ zero. ap (λ (h : SlaveHalf). access_byte h.registers) receives.is ∙ clear_access receives.rested slave near (MayRest-access half receives.rested receives.rests ∙ zero);
}

clears_wrote : (slave : ℕ) → slave < 64 → (b c : Seen) (value : Bool) (half later : SlaveHalf) → Wrote (clear_order slave) b c value half later → Clears half later
clears_wrote slave near b c value half later wrote = elim (wrote_receives (clear_order slave) b c value half later wrote) [
  | inl same ↦ subst (λ (h : SlaveHalf). Clears half h) (sym same) (clears_same half)
  | inr receives ↦ clears_receives slave near half later receives
]

-- SETTLING

pub seen_idle : (slave : ℕ) (rested : Rested) (half : SlaveHalf) → IsSeen slave rested half → IsIdle half
seen_idle slave Well half seen = seen.1.idle
seen_idle slave Failed half seen = seen.1

pub seen_here : (slave : ℕ) (rested : Rested) (half : SlaveHalf) → IsSeen slave rested half → IsAt slave half
seen_here slave Well half seen = seen.0
seen_here slave Failed half seen = seen.0

pub settled_well : (old : Seen) (slave : ℕ) (taken : Bool) (new : Seen) → IsTrue taken → Ran (Waited old slave new (Some Well)) old slave 10000 new
    → Ran (BecomesSettled old slave taken new settles.Written) old slave 10001 new
settled_well old slave taken new wanted ran =
    Ran-weaker (omega arith) (λ half later here there waited. (wanted, waited.0, waited.1.1, λ word value writing. well_is_written word value half later waited.0 waited.1.1 writing)) ran

pub settled_dead : (old : Seen) (slave : ℕ) (taken : Bool) (new : Seen) → Ran (Waited old slave new None) old slave 10000 new → Ran (BecomesSettled old slave taken new settles.Dead) old slave 10001 new
settled_dead old slave taken new ran = Ran-weaker (omega arith) (λ half later here there waited. waited) ran

pub settled_again : (old : Seen) (slave : ℕ) (taken : Bool) (b new : Seen) (rested : Rested) (value : Bool) → slave < 64 → (IsTrue taken → rested ≡ Failed)
    → Ran (Waited old slave b (Some rested)) old slave 10000 b → Ran (Wrote (clear_order slave) b new value) b slave 1 new → Ran (BecomesSettled old slave taken new settles.Again) old slave 10001 new
settled_again old slave taken b new rested value near why ran last =
    Ran-then (omega arith) (λ half mid later waited wrote. again half mid later waited wrote.0 wrote.1) ran (Ran-tied last)
  where
    one : clock new ≡ clock b + 1
    one = let some = last.some in let most = last.quiet.within in omega arith

    again : (half mid later : SlaveHalf) → Waited old slave b (Some rested) half mid → HalfAt new slave (clock b) mid → Wrote (clear_order slave) b new value mid later → BecomesSettled old slave taken new settles.Again half later
    again half mid later waited here wrote =
        let clears = clears_wrote slave near b new value mid later wrote in
        let idle = seen_idle slave rested mid waited.1 in (
          OnlyRests-then half mid later (MayRest-only half mid waited.0) clears.only,
          clears.idle idle,
          λ wanted.
              let failed : IsSeen slave Failed mid = subst (λ (r : Rested). IsSeen slave r mid) (why wanted) waited.1 in
              record { time = clock b; after = Follows-clock old b ran.quiet.follows; last = one; rested = mid; here = here; rests = waited.0; idle = failed.1; error = failed.2 },
          record {
            time = clock b;
            after = Follows-clock old b ran.quiet.follows;
            last = one;
            rested = mid;
            here = here;
            idle = idle;
            cleared = clears_errors slave near b new value mid later (seen_here slave rested mid waited.1) idle wrote;
          },
        )

-- the public answer
pub settles_ok : (old : Seen) (slave : ℕ) (taken : Bool) (answer : Settled) (new : Seen) → Ran (BecomesSettled old slave taken new answer) old slave 10001 new → SettlesSlave old slave taken (Ok answer) new
settles_ok old slave taken answer new ran = record {
  quiet = ran.quiet;
  half = λ s is. subst (λ (u : Settled). HalfGoes (BecomesSettled old slave taken new u) old.state slave new.state) (let e : answer ≡ s = cc in e) ran.half;
  stopped = (λ stop. absurd (ran.going stop), λ is. absurd cc);
  only_stopped = tt;
}

pub settles_cut : (old : Seen) (slave : ℕ) (taken : Bool) (result : Result Settled DeviceFault) (new : Seen) → result ≡ Err device.Stopped → StopsQuietly old 10001 new → SettlesSlave old slave taken result new
settles_cut old slave taken result new is cut = subst (λ (r : Result Settled DeviceFault). SettlesSlave old slave taken r new) (sym is) (record {
  quiet = cut.quiet;
  half = λ s was. absurd cc;
  stopped = (λ stops. refl, λ was. cut.stopped);
  only_stopped = refl;
})
