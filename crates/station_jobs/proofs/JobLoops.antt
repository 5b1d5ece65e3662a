-- What holds each time a loop asks for a job, and at its end.
use Rattle.std.proofs.Common.{List, [], ◌∷◌, ◌++◌, Some, None, refl, sym, subst, inl, inr}
use Rattle.std.specs.Prelude.{IsTrue}
use Rattle.std.proofs.lemmas.List.{append-nil}
use Rattle.site_core.specs.State.{Seen}
use Rattle.station_jobs.specs.declared.log.Assignment.{Assignment}
use Rattle.station_jobs.specs.Dispatch.{with_outcome}
use Rattle.station_jobs.specs.Jobs.{DoneInTurn, Led, RunsToEnd}
use Rattle.station_jobs.proofs.InTurn.{in-turn-snoc, reported-last}

module _ {J O : Type 0} (Does : J → O → Seen → Seen → Type 0) where
  -- one more job was done, and its outcome reported
  pub reported-turn : (log : List (Assignment J O)) (job : J) (outcome : O) (old mid new : Seen) → DoneInTurn Does log old mid → Does job outcome mid new → (IsTrue new.is_stopped → ⊥)
      → DoneInTurn Does (with_outcome (log ++ record { job = job; outcome = None } ∷ []) outcome) old new
  reported-turn log job outcome old mid new turn does going =
      subst (λ (l : List (Assignment J O)). DoneInTurn Does l old new) (sym (reported-last log job outcome))
      (in-turn-snoc Does log (record { job = job; outcome = Some outcome }) old mid new turn (record { outcome = outcome; reported = refl; does = does; going = going }))

  -- no job is out
  pub led-all : (log : List (Assignment J O)) (old new : Seen) → DoneInTurn Does log old new → Led Does log old new
  led-all log old new turn = record { done = log; last = []; log_is = sym (append-nil log); mid = new; in_turn = turn; ends = refl }

  -- the last job's outcome was reported
  pub led-reported : (log : List (Assignment J O)) (job : J) (outcome : O) (old mid new : Seen) → DoneInTurn Does log old mid → Does job outcome mid new
      → Led Does (with_outcome (log ++ record { job = job; outcome = None } ∷ []) outcome) old new
  led-reported log job outcome old mid new turn does = record {
    done = log;
    last = record { job = job; outcome = Some outcome } ∷ [];
    log_is = reported-last log job outcome;
    mid = mid;
    in_turn = turn;
    ends = record { outcome = outcome; reported = inl refl; does = does };
  }

  -- the dispatch has ended
  pub runs-ended : (IsStop : O → Type 0) (ended held : Type 0) (log : List (Assignment J O)) (old new : Seen) → DoneInTurn Does log old new → ended → RunsToEnd Does IsStop ended held log old new
  runs-ended IsStop ended held log old new turn is = record { done = log; last = []; log_is = sym (append-nil log); mid = new; in_turn = turn; ends = (is, refl) }

  -- the site stopped in the last job
  pub runs-stopped : (IsStop : O → Type 0) (ended held : Type 0) (log : List (Assignment J O)) (job : J) (outcome : O) (old mid new : Seen) → DoneInTurn Does log old mid → Does job outcome mid new
      → IsStop outcome → RunsToEnd Does IsStop ended held (with_outcome (log ++ record { job = job; outcome = None } ∷ []) outcome) old new
  runs-stopped IsStop ended held log job outcome old mid new turn does stops = record {
    done = log;
    last = record { job = job; outcome = Some outcome } ∷ [];
    log_is = reported-last log job outcome;
    mid = mid;
    in_turn = turn;
    ends = (outcome, does, inl (refl, stops));
  }

  -- the last job's outcome was held back
  pub runs-held : (IsStop : O → Type 0) (ended held : Type 0) (log : List (Assignment J O)) (job : J) (outcome : O) (old mid new : Seen) → DoneInTurn Does log old mid → Does job outcome mid new
      → held → RunsToEnd Does IsStop ended held (log ++ record { job = job; outcome = None } ∷ []) old new
  runs-held IsStop ended held log job outcome old mid new turn does holds = record {
    done = log;
    last = record { job = job; outcome = None } ∷ [];
    log_is = refl;
    mid = mid;
    in_turn = turn;
    ends = (outcome, does, inr (refl, holds));
  }

  -- the last job is still out
  pub led-unreported : (log : List (Assignment J O)) (job : J) (outcome : O) (old mid new : Seen) → DoneInTurn Does log old mid → Does job outcome mid new
      → Led Does (log ++ record { job = job; outcome = None } ∷ []) old new
  led-unreported log job outcome old mid new turn does = record {
    done = log;
    last = record { job = job; outcome = None } ∷ [];
    log_is = refl;
    mid = mid;
    in_turn = turn;
    ends = record { outcome = outcome; reported = inr refl; does = does };
  }
