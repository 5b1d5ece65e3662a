-- One more job after those that were done.
use Rattle.std.proofs.Common.{◌≡◌, List, [], ◌∷◌, ◌++◌, Some, None, refl, ap, subst}
use Rattle.site_core.specs.State.{Seen}
use Rattle.station_jobs.specs.declared.log.Assignment.{Assignment}
use Rattle.station_jobs.specs.Dispatch.{with_outcome}
use Rattle.station_jobs.specs.Jobs.{IsDone, DoneInTurn}

pub in-turn-snoc : {J O : Type 0} (Does : J → O → Seen → Seen → Type 0) (log : List (Assignment J O)) (entry : Assignment J O) (old mid new : Seen)
    → DoneInTurn Does log old mid → IsDone Does entry mid new → DoneInTurn Does (log ++ entry ∷ []) old new
in-turn-snoc Does [] entry old mid new same done = (new, subst (λ (s : Seen). IsDone Does entry s new) same done, refl)
in-turn-snoc Does (first ∷ log) entry old mid new turn done = (turn.0, turn.1, in-turn-snoc Does log entry turn.0 mid new turn.2 done)

-- a job that was handed out gets its outcome
pub reported-last : {J O : Type 0} (log : List (Assignment J O)) (job : J) (outcome : O)
    → with_outcome (log ++ record { job = job; outcome = None } ∷ []) outcome ≡ log ++ record { job = job; outcome = Some outcome } ∷ []
reported-last [] job outcome = refl
reported-last (first ∷ []) job outcome = refl
reported-last (first ∷ next ∷ log) job outcome = ap (λ (l : List (Assignment _ _)). first ∷ l) (reported-last (next ∷ log) job outcome)
