-- What a power cut may leave while several jobs are done in order, derived from what it may leave during one job.
use Rattle.std.proofs.Common.{◌≡◌, List, [], ◌∷◌, ◌++◌, refl, sym, ◌∙◌, ap, subst}
use Rattle.std.specs.Prelude.{IsTrue}
use Rattle.site_core.specs.State.{State, Pair, Seen}
use Rattle.site_core.specs.Passes.{Passes, LeavesOnly, StaysWithin}
use Rattle.site_core.proofs.Runs.{Passes-none, Passes-then, Passes-weaker, Passes-left}
use Rattle.station_jobs.specs.declared.log.Assignment.{Assignment}
use Rattle.station_jobs.specs.Jobs.{DoneInTurn, MayEnd, Led}
use Rattle.station_jobs.specs.Left.{CameBackInTurn, LeftBy, ServedJobs}

module _ {J O : Type 0} (Does : J → O → Seen → Seen → Type 0) (Returns : J → O → State → State → Type 0) (InProgress : J → State → Pair → Type 0)
    (stays : (job : J) (outcome : O) (old new : Seen) → Does job outcome old new → StaysWithin (InProgress job old.state) old new)
    (returns : (job : J) (outcome : O) (old new : Seen) → Does job outcome old new → (IsTrue new.is_stopped → ⊥) → Returns job outcome old.state new.state) where
  abbrev Left : List (Assignment J O) → State → Pair → Type 0
  Left log old pair = LeftBy Returns InProgress log old pair

  -- jobs that were done have begun and returned
  pub came-back : (log : List (Assignment J O)) (old new : Seen) → DoneInTurn Does log old new → CameBackInTurn Returns log old.state new.state
  came-back [] old new same = ap (λ (s : Seen). s.state) same
  came-back (first ∷ log) old new turn =
      let next : Seen = turn.0 in
      let one = turn.1 in
      (next.state, record { outcome = one.outcome; reported = one.reported; returns = returns first.job one.outcome old next one.does one.going }, came-back log next new turn.2)

  -- the first job is in progress
  in-first : (first : Assignment J O) (others : List (Assignment J O)) (outcome : O) (old new : Seen) → Does first.job outcome old new → Passes (LeavesOnly (Left (first ∷ others) old.state)) old new
  in-first first others outcome old new does =
      let stay = stays first.job outcome old new does in
      Passes-weaker (LeavesOnly (InProgress first.job old.state)) (LeavesOnly (Left (first ∷ others) old.state)) old new
      (λ s only pair leaves. record { done = []; others = first ∷ others; log_is = refl; mid = old.state; in_turn = refl; left = only pair leaves }) stay.passes

  pub passes-left : (done last : List (Assignment J O)) (old mid new : Seen) → DoneInTurn Does done old mid → MayEnd Does last mid new → Passes (LeavesOnly (Left (done ++ last) old.state)) old new
  passes-left [] [] old mid new same ends =
      subst (λ (s : Seen). Passes (LeavesOnly (Left [] old.state)) old s) (sym_of ends same)
      (Passes-none (LeavesOnly (Left [] old.state)) old (λ pair leaves. record { done = []; others = []; log_is = refl; mid = old.state; in_turn = refl; left = leaves }))
    where
      sym_of : {a b c : Seen} → a ≡ b → b ≡ c → c ≡ a
      sym_of p q = sym (p ∙ q)
  passes-left [] (one ∷ []) old mid new same ends =
      subst (λ (s : Seen). Passes (LeavesOnly (Left (one ∷ []) s.state)) s new) same (in-first one [] ends.outcome mid new ends.does)
  passes-left [] (one ∷ two ∷ more) old mid new same ends = absurd ends
  passes-left (first ∷ done) last old mid new turn ends =
      let next : Seen = turn.0 in
      let one = turn.1 in
      Passes-then (LeavesOnly (Left (first ∷ done ++ last) old.state)) old next new
      (in-first first (done ++ last) one.outcome old next one.does)
      (Passes-weaker (LeavesOnly (Left (done ++ last) next.state)) (LeavesOnly (Left (first ∷ done ++ last) old.state)) next new
      (λ s only pair leaves.
      let left = only pair leaves in
      record {
        done = first ∷ left.done;
        others = left.others;
        log_is = ap (λ (l : List (Assignment J O)). first ∷ l) left.log_is;
        mid = left.mid;
        in_turn = (next.state, record { outcome = one.outcome; reported = one.reported; returns = returns first.job one.outcome old next one.does one.going }, left.in_turn);
        left = left.left;
      })
      (passes-left done last next mid new turn.2 ends))

  pub served : (log : List (Assignment J O)) (old new : Seen) → Led Does log old new → ServedJobs Does Returns InProgress log old new
  served log old new led =
      let passes = subst (λ (l : List (Assignment J O)). Passes (LeavesOnly (Left l old.state)) old new) (sym led.log_is) (passes-left led.done led.last old led.mid new led.in_turn led.ends) in
      record { led = led; left = Passes-left (Left log old.state) old new passes }
