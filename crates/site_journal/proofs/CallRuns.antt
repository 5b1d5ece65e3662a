-- Device calls in a row.
use Rattle.std.proofs.Common.{◌≡◌, ◌≢◌, ℕ, ◌+◌, ◌≤◌, IsTrue, List, Result, Ok, Err, IsErrAnd, refl, ap, ◌∙◌, arith}
use Rattle.site_core.specs.declared.fault.DeviceFault.{DeviceFault}
use Rattle.site_core.specs.declared.fault.DeviceFault.TheVariants as faults
use Rattle.site_core.specs.State.{State, Pair, Seen, clock}
use Rattle.site_core.specs.Calls.{Calls, faults_of}
use Rattle.site_core.specs.Passes.{LeavesOnly, StaysWithin}
use Rattle.site_core.proofs.Runs.{Passes-none, Passes-stays}
use Rattle.site_core.proofs.Times.{Follows-same, Follows-then, Calls-follows, Calls-clock}
use Rattle.site_journal.specs.Runs.{MakesCalls}
use Rattle.site_journal.proofs.GoLaws.{stays-weaker, stays-then}

-- one call
pub runs_one : {T : Type 0} (Q : Pair → Type 0) (old : Seen) (middle : List State) (result : Result T DeviceFault) (new : Seen)
    → Calls old middle result new → StaysWithin Q old new → result ≢ Err faults.Lost → new.turns ≡ old.turns → MakesCalls Q old 1 result new
runs_one Q old middle result new call stays not_lost turns = record {
  stays = stays;
  follows = Calls-follows old middle result new call;
  within = let e : clock new ≡ clock old + 1 = Calls-clock old middle result new call in omega arith;
  counted = call.counted;
  stopped = call.stopped;
  not_lost = not_lost;
  turns = turns;
}

-- of which less is said
pub runs_weaker : {T : Type 0} (P Q : Pair → Type 0) (old : Seen) (few most : ℕ) (result : Result T DeviceFault) (new : Seen) → few ≤ most
    → ((pair : Pair) → P pair → Q pair) → MakesCalls P old few result new → MakesCalls Q old most result new
runs_weaker P Q old few most result new more weaker runs = record {
  stays = stays-weaker P Q old new weaker runs.stays;
  follows = runs.follows;
  within = let w : clock new ≤ clock old + few = runs.within in omega arith;
  counted = runs.counted;
  stopped = runs.stopped;
  not_lost = runs.not_lost;
  turns = runs.turns;
}

-- one run after another
pub runs_then : {A B : Type 0} (Q : Pair → Type 0) (a b c : Seen) (m n most : ℕ) (value : A) (result : Result B DeviceFault) → m + n ≤ most
    → MakesCalls {T = A} Q a m (Ok value) b → MakesCalls Q b n result c → MakesCalls Q a most result c
runs_then Q a b c m n most value result more first second = record {
  stays = stays-then Q a b c first.stays second.stays;
  follows = Follows-then a b c first.follows second.follows;
  within = let w : clock b ≤ clock a + m = first.within in let v : clock c ≤ clock b + n = second.within in omega arith;
  counted = let e : b.faults ≡ a.faults + 0 = first.counted in omega (arith, e, second.counted);
  stopped = second.stopped;
  not_lost = second.not_lost;
  turns = second.turns ∙ first.turns;
}

-- the value doesn't matter, nor the type that it would have
pub runs_ok : {A B : Type 0} (Q : Pair → Type 0) (old : Seen) (most : ℕ) (value : A) (other : B) (new : Seen) → MakesCalls {T = A} Q old most (Ok value) new → MakesCalls {T = B} Q old most (Ok other) new
runs_ok Q old most value other new runs = record {
  stays = runs.stays;
  follows = runs.follows;
  within = runs.within;
  counted = runs.counted;
  stopped = (λ stopped. absurd (let e = runs.stopped.0 stopped in cc), λ e. absurd cc);
  not_lost = λ e. absurd cc;
  turns = runs.turns;
}

same_faults : (A B : Type 0) (fault : DeviceFault) → faults_of {T = A} (Err fault) ≡ faults_of {T = B} (Err fault)
same_faults A B faults.Disk = refl
same_faults A B faults.Lost = refl
same_faults A B faults.Stopped = refl

pub runs_err : {A B : Type 0} (Q : Pair → Type 0) (old : Seen) (most : ℕ) (fault : DeviceFault) (new : Seen) → MakesCalls {T = A} Q old most (Err fault) new → MakesCalls {T = B} Q old most (Err fault) new
runs_err {A} {B} Q old most fault new runs = record {
  stays = runs.stays;
  follows = runs.follows;
  within = runs.within;
  counted = runs.counted ∙ ap (λ n. old.faults + n) (same_faults A B fault);
  stopped = (λ stopped. let e = runs.stopped.0 stopped in cc, λ e. runs.stopped.1 cc);
  not_lost = λ e. runs.not_lost cc;
  turns = runs.turns;
}

-- nothing done yet, on a site that goes on
pub runs_none : (Q : Pair → Type 0) (seen : Seen) → ¬ IsTrue seen.is_stopped → LeavesOnly Q seen.state → MakesCalls {T = Unit {0}} Q seen 0 (Ok tt) seen
runs_none Q seen going only = record {
  stays = Passes-stays Q seen seen (Passes-none (LeavesOnly Q) seen only);
  follows = Follows-same seen;
  within = omega arith;
  counted = omega arith;
  stopped = (λ stopped. absurd (going stopped), λ e. absurd cc);
  not_lost = λ e. absurd cc;
  turns = refl;
}

-- where a call went well the site goes on
pub still_going : {T : Type 0} (Q : Pair → Type 0) (old : Seen) (most : ℕ) (value : T) (new : Seen) → MakesCalls {T = T} Q old most (Ok value) new → ¬ IsTrue new.is_stopped
still_going Q old most value new runs = λ stopped. let e = runs.stopped.0 stopped in absurd cc

-- the fault that is handed on
pub same_fault : {T : Type 0} (result : Result T DeviceFault) (fault : DeviceFault) → IsErrAnd result (λ other. other ≡ fault) → result ≡ Err fault
same_fault (Ok value) fault is = absurd is
same_fault (Err other) fault is = ap Err is
