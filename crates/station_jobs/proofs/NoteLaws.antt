-- The last job of the notes, and its outcome.
use Rattle.std.proofs.Common.{◌≡◌, ℕ, zero, suc, ◌-◌, List, [], ◌∷◌, ◌++◌, length, refl, ap, arith, Option, Some, None}
use Rattle.std.specs.Prelude.{Bool, true, false, not, slice_get, is_none, is_some}
use Rattle.station_jobs.specs.declared.log.Assignment.{Assignment}
use Rattle.station_jobs.specs.Dispatch.{with_outcome}
use Rattle.station_jobs.specs.Noted.{is_waiting}

waiting-at : {J O : Type 0} → (log : List (Assignment J O)) (n : ℕ) (last : Assignment J O) → length log ≡ suc n → slice_get log n ≡ Some last → is_waiting log ≡ is_none last.outcome
waiting-at [] n last count is = absurd (omega arith)
waiting-at (one ∷ []) zero last count is = cc
waiting-at (one ∷ []) (suc n) last count is = absurd (omega arith)
waiting-at (one ∷ next ∷ jobs) zero last count is = absurd (omega arith)
waiting-at (one ∷ next ∷ jobs) (suc n) last count is = waiting-at (next ∷ jobs) n last (omega arith) is

pub waiting-last : {J O : Type 0} → (log : List (Assignment J O)) (last : Assignment J O) → slice_get log (length log - 1) ≡ Some last → is_waiting log ≡ is_none last.outcome
waiting-last [] last is = cc
waiting-last (one ∷ jobs) last is =
    let n : suc (length jobs) - 1 ≡ length jobs = omega arith in
    waiting-at (one ∷ jobs) (length jobs) last refl (rw n at is)

-- the outcome of the last one is noted
pub outcome-last : {J O : Type 0} → (log : List (Assignment J O)) (last : Assignment J O) (outcome : O) → with_outcome (log ++ last ∷ []) outcome ≡ log ++ record last { outcome = Some outcome } ∷ []
outcome-last [] last outcome = refl
outcome-last (one ∷ []) last outcome = refl
outcome-last {J} {O} (one ∷ next ∷ jobs) last outcome = ap (λ (l : List (Assignment J O)). one ∷ l) (outcome-last (next ∷ jobs) last outcome)

-- what a flag says of the last one
pub none-from-some : {A : Type 0} → (o : Option A) (b : Bool) → is_some o ≡ not b → b ≡ is_none o
none-from-some None true e = refl
none-from-some None false e = cc
none-from-some (Some x) true e = cc
none-from-some (Some x) false e = refl
