-- Device calls in a row.
use Rattle.std.proofs.Common.{◌≡◌, ℕ, ◌+◌, ◌<◌, ◌≤◌, Some, slice_get, Result, Ok, Err, IsErr, refl, ap, subst, ◌∙◌, arith}
use Rattle.esc_model.specs.SlaveHalf.{SlaveHalf}
use Rattle.site_core.specs.State.{Seen, Leaves, clock}
use Rattle.site_core.specs.Passes.{LeavesOnly}
use Rattle.site_core.proofs.Runs.{Passes-none, Passes-then, Passes-weaker, Passes-stays}
use Rattle.site_core.proofs.Times.{Follows-same, Follows-then}
use Rattle.rom_steps.specs.declared.step.Stop.{Stop}
use Rattle.esc_rom.specs.Runs.{Quiet, Ran, StopsQuietly, Performs}
use Rattle.esc_rom.proofs.States.{HalfGoes-weaker, HalfGoes-then}

-- nothing done
pub Quiet-none : (seen : Seen) (most : ℕ) → Quiet seen most seen
Quiet-none seen most = record {
  adds = Passes-stays (Leaves seen.state) seen seen (Passes-none (LeavesOnly (Leaves seen.state)) seen (λ pair leaves. leaves));
  follows = Follows-same seen;
  within = omega arith;
  never_fewer = omega arith;
  turns = refl;
}

pub Quiet-more : {a b : Seen} {m n : ℕ} → m ≤ n → Quiet a m b → Quiet a n b
Quiet-more {a} {b} {m} more quiet =
    record { adds = quiet.adds; follows = quiet.follows; within = let w : clock b ≤ clock a + m = quiet.within in omega arith; never_fewer = quiet.never_fewer; turns = quiet.turns }

pub Quiet-then : {a b c : Seen} {m n most : ℕ} → m + n ≤ most → Quiet a m b → Quiet b n c → Quiet a most c
Quiet-then {a} {b} {c} {m} {n} more first second = record {
  adds = Passes-stays (Leaves a.state) a c (Passes-then (LeavesOnly (Leaves a.state)) a b c first.adds.passes
      (Passes-weaker (LeavesOnly (Leaves b.state)) (LeavesOnly (Leaves a.state)) b c (λ state only pair leaves. first.adds.passes.now pair (only pair leaves)) second.adds.passes));
  follows = Follows-then a b c first.follows second.follows;
  within = let w : clock b ≤ clock a + m = first.within in let v : clock c ≤ clock b + n = second.within in omega arith;
  never_fewer = let w : a.faults ≤ b.faults = first.never_fewer in let v : b.faults ≤ c.faults = second.never_fewer in omega arith;
  turns = second.turns ∙ first.turns;
}

-- one run after another, or of which less is said
pub Ran-then : {R W V : SlaveHalf → SlaveHalf → Type 0} {a b c : Seen} {slave m n most : ℕ} → m + n ≤ most
    → ((half mid later : SlaveHalf) → R half mid → W mid later → V half later) → Ran R a slave m b → Ran W b slave n c → Ran V a slave most c
Ran-then {a = a} {b = b} {c = c} more both first second = record {
  quiet = Quiet-then more first.quiet second.quiet;
  some = let w : clock a < clock b = first.some in let v : clock b < clock c = second.some in omega arith;
  going = second.going;
  half = HalfGoes-then both first.half second.half;
}

-- the halves are those of the states
pub Ran-weaker : {R W : SlaveHalf → SlaveHalf → Type 0} {a b : Seen} {slave m most : ℕ} → m ≤ most
    → ((half later : SlaveHalf) → slice_get a.state.halves slave ≡ Some half → slice_get b.state.halves slave ≡ Some later → R half later → W half later) → Ran R a slave m b → Ran W a slave most b
Ran-weaker more weaker ran = record { quiet = Quiet-more more ran.quiet; some = ran.some; going = ran.going; half = HalfGoes-weaker ran.half weaker }

pub Ran-cut : {R : SlaveHalf → SlaveHalf → Type 0} {a b c : Seen} {slave m n most : ℕ} → m + n ≤ most → Ran R a slave m b → StopsQuietly b n c → StopsQuietly a most c
Ran-cut more ran cut = record { quiet = Quiet-then more ran.quiet cut.quiet; stopped = cut.stopped }

pub IsCut-more : {a b : Seen} {m most : ℕ} → m ≤ most → StopsQuietly a m b → StopsQuietly a most b
IsCut-more more cut = record { quiet = Quiet-more more cut.quiet; stopped = cut.stopped }

-- an answer that is an error
pub cut_as : {T : Type 0} (R : T → SlaveHalf → SlaveHalf → Type 0) {a b : Seen} (slave : ℕ) {most : ℕ} (result : Result T Stop) → IsErr result → StopsQuietly a most b → Performs R a slave most result b
cut_as R slave (Ok value) is cut = absurd cc
cut_as R slave (Err stop) is cut = cut

-- LOOPS

-- nothing is done yet
pub record NoneYet (R : SlaveHalf → SlaveHalf → Type 0) (a : Seen) (most : ℕ) (b : Seen) : Type 0 where
  pub no_calls : most ≡ 0
  pub same : b ≡ a
  pub stays : (half : SlaveHalf) → R half half

-- or some runs of this many calls
pub data SoFar (R : SlaveHalf → SlaveHalf → Type 0) (a : Seen) (slave most : ℕ) (b : Seen) : Type 0 where
  none : NoneYet R a most b → SoFar R a slave most b
  some : Ran R a slave most b → SoFar R a slave most b

pub so_then : {R W V : SlaveHalf → SlaveHalf → Type 0} {a b c : Seen} {slave m n most : ℕ} → m + n ≤ most
    → ((half mid later : SlaveHalf) → R half mid → W mid later → V half later) → SoFar R a slave m b → Ran W b slave n c → Ran V a slave most c
so_then {W = W} {c = c} {slave = slave} {n = n} more both (none yet) ran =
    Ran-weaker (omega arith) (λ half later here there goes. both half half later (yet.stays half) goes) (subst (λ (s : Seen). Ran W s slave n c) yet.same ran)
so_then more both (some first) second = Ran-then more both first second

pub so_cut : {R : SlaveHalf → SlaveHalf → Type 0} {a b c : Seen} {slave m n most : ℕ} → m + n ≤ most → SoFar R a slave m b → StopsQuietly b n c → StopsQuietly a most c
so_cut {c = c} {n = n} more (none yet) cut = IsCut-more (omega arith) (subst (λ (s : Seen). StopsQuietly s n c) yet.same cut)
so_cut more (some first) cut = Ran-cut more first cut

pub so_over : {R : SlaveHalf → SlaveHalf → Type 0} {a b : Seen} {slave most : ℕ} → 0 < most → SoFar R a slave most b → Ran R a slave most b
so_over some_calls (none yet) = absurd (let e = yet.no_calls in omega arith)
so_over some_calls (some ran) = ran

pub so_clock : {R : SlaveHalf → SlaveHalf → Type 0} {a b : Seen} {slave most : ℕ} → SoFar R a slave most b → clock a ≤ clock b
so_clock {a = a} {b = b} (none yet) = let e = ap clock yet.same in omega arith
so_clock {a = a} {b = b} (some ran) = let later = ran.some in omega arith

-- the value of a run that speaks of its two ends is that one
pub Ran-reported : {T : Type 0} (R : Seen → Seen → T → SlaveHalf → SlaveHalf → Type 0) {x y : T} {a b : Seen} {slave most : ℕ} → x ≡ y → Ran (R a b x) a slave most b → Ran (R a b y) a slave most b
Ran-reported {T} R {a = a} {b = b} {slave = slave} {most = most} is ran = subst (λ (v : T). Ran (R a b v) a slave most b) is ran

-- the value is that one
pub Ran-value : {T : Type 0} (R : T → SlaveHalf → SlaveHalf → Type 0) {x y : T} {a b : Seen} {slave most : ℕ} → x ≡ y → Ran (R x) a slave most b → Ran (R y) a slave most b
Ran-value {T} R {a = a} {b = b} {slave = slave} {most = most} is ran = subst (λ (v : T). Ran (R v) a slave most b) is ran
