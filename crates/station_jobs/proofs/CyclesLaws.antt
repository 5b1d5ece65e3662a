-- The jobs that the loop of the process data thread has done.
use Rattle.std.proofs.Common.{◌≡◌, ◌∙◌, ℕ, List, [], ◌∷◌, ◌++◌, append_assoc, Option, None, Err, refl, sym, ap, subst}
use Rattle.std.specs.Prelude.{◌≢◌, map}
use Rattle.std.proofs.lemmas.List.{append-nil, map-append}
use Rattle.sii_image.specs.declared.plan.Plan.{Plan}
use Rattle.site_core.specs.State.{Seen}
use Rattle.cyclic.specs.declared.fault.CycleFault.TheVariants as faults
use Rattle.station_jobs.specs.declared.cycle.CycleNote.{CycleNote}
use Rattle.station_jobs.specs.Setting.{TakesJob}
use Rattle.station_jobs.specs.declared.cycle.CycleOutcome.{CycleOutcome}
use Rattle.station_jobs.specs.Cycling.{DoneJob, noted, outcome_of, TakesJobs, Cycles}

-- The jobs of the log were done, and the site hasn't stopped. Their outcomes are reported: what `known` says of later outcomes, `logged` says
-- of all, if no job was out at first (`vacant`).
pub record SoFar (slaves : ℕ) (vacant : Type 0) (logged known : List CycleOutcome → Type 0) (log : List CycleNote) (start : Seen)
    (last : Option Plan) (now : Seen) : Type 0 where
  pub done : List DoneJob
  pub log_is : log ≡ map noted done
  pub reported : vacant → (later : List CycleOutcome) → known later → logged (map outcome_of done ++ later)
  pub takes : TakesJobs slaves done None start last now

module _ (slaves : ℕ) (vacant : Type 0) (logged : List CycleOutcome → Type 0) where
  pub none-so-far : (start : Seen) → SoFar slaves vacant logged logged [] start None start
  none-so-far start = record { done = []; log_is = refl; reported = λ is later holds. holds; takes = (refl, refl) }

  -- one more job
  takes-more : (jobs : List DoneJob) (one : DoneJob) (first last later : Option Plan) (old mid new : Seen) → TakesJobs slaves jobs first old last mid
      → TakesJob slaves last one.job mid one.outcome later new → one.outcome.result ≢ Err faults.Stopped → TakesJobs slaves (jobs ++ one ∷ []) first old later new
  takes-more [] one first last later old mid new same takes going = (
    later,
    new,
    subst (λ (p : Option Plan). TakesJob slaves p one.job old one.outcome later new) same.0
        (subst (λ (s : Seen). TakesJob slaves last one.job s one.outcome later new) same.1 takes),
    going,
    (refl, refl),
  )
  takes-more (x ∷ jobs) one first last later old mid new all takes going =
      (all.0, all.1, all.2, all.3, takes-more jobs one all.0 last later all.1 mid new all.4 takes going)

  noted-more : (done : List DoneJob) (one : DoneJob) (log : List CycleNote) → log ≡ map noted done → log ++ noted one ∷ [] ≡ map noted (done ++ one ∷ [])
  noted-more done one log is = ap (λ (l : List CycleNote). l ++ noted one ∷ []) is ∙ sym (map-append noted done (one ∷ []))

  outcomes-more : (done : List DoneJob) (one : DoneJob) (later : List CycleOutcome)
      → map outcome_of done ++ one.outcome ∷ later ≡ map outcome_of (done ++ one ∷ []) ++ later
  outcomes-more done one later =
      sym (ap (λ (l : List CycleOutcome). l ++ later) (map-append outcome_of done (one ∷ [])) ∙ append_assoc (map outcome_of done) (one.outcome ∷ []) later)

  pub more-so-far : (known then : List CycleOutcome → Type 0) (log : List CycleNote) (one : DoneJob) (start : Seen) (last later : Option Plan)
      (now new : Seen) → SoFar slaves vacant logged known log start last now → (vacant → (others : List CycleOutcome) → then others → known (one.outcome ∷ others))
      → TakesJob slaves last one.job now one.outcome later new → one.outcome.result ≢ Err faults.Stopped
      → SoFar slaves vacant logged then (log ++ noted one ∷ []) start later new
  more-so-far known then log one start last later now new before heard takes going = record {
    done = before.done ++ one ∷ [];
    log_is = noted-more before.done one log before.log_is;
    reported = λ is others holds.
        subst (λ (l : List CycleOutcome). logged l) (outcomes-more before.done one others)
        (before.reported is (one.outcome ∷ others) (heard is others holds));
    takes = takes-more before.done one None last later start now new before.takes takes going;
  }

  -- the dispatch has ended
  pub cycles-ended : (ended : Type 0) (known : List CycleOutcome → Type 0) (log : List CycleNote) (start : Seen) (last : Option Plan) (now : Seen)
      → SoFar slaves vacant logged known log start last now → (vacant → known []) → ended → Cycles slaves ended (λ outcomes. vacant → logged outcomes) log start now
  cycles-ended ended known log start last now before heard is = record {
    done = before.done;
    final = [];
    log_is = before.log_is ∙ ap (λ (l : List DoneJob). map noted l) (sym (append-nil before.done));
    reported = λ at.
        subst (λ (l : List CycleOutcome). logged l)
        (append-nil (map outcome_of before.done) ∙ ap (λ (l : List DoneJob). map outcome_of l) (sym (append-nil before.done)))
        (before.reported at [] (heard at));
    plan = last;
    mid = now;
    takes = before.takes;
    ends = (is, refl);
  }

  -- the site stopped in one more job
  pub cycles-stopped : (ended : Type 0) (known : List CycleOutcome → Type 0) (log : List CycleNote) (one : DoneJob) (start : Seen)
      (last later : Option Plan) (now new : Seen) → SoFar slaves vacant logged known log start last now → (vacant → known (one.outcome ∷ []))
      → TakesJob slaves last one.job now one.outcome later new → one.outcome.result ≡ Err faults.Stopped
      → Cycles slaves ended (λ outcomes. vacant → logged outcomes) (log ++ noted one ∷ []) start new
  cycles-stopped ended known log one start last later now new before heard takes stopped = record {
    done = before.done;
    final = one ∷ [];
    log_is = noted-more before.done one log before.log_is;
    reported = λ at.
        subst (λ (l : List CycleOutcome). logged l) (sym (map-append outcome_of before.done (one ∷ [])))
        (before.reported at (one.outcome ∷ []) (heard at));
    plan = last;
    mid = now;
    takes = before.takes;
    ends = (later, takes, stopped);
  }
