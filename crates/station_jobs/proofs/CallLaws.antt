-- One word of a slave, issued or settled: its device calls and its events.
use Rattle.std.proofs.Common.{◌≡◌, ℕ, Bool, true, false, List, Result, Ok, Err, inl, inr, refl, sym, ap, subst, ◌∙◌}
use Rattle.std.specs.Prelude.{IsTrue}
use Rattle.esc_model.specs.SlaveHalf.{SlaveHalf, Activity, Idle, Reading, Writing, in_flight, MayRest, MayEnd, MayHold, with_errors, settled}
use Rattle.esc_model.specs.WordAccess.{IsIdle, OnlyRests}
use Rattle.esc_model.proofs.OnlyResting.{MayRest-only}
use Rattle.esc_rom.specs.Access.{IssuesWord, SettlesSlave, BecomesIssued, BecomesSettled}
use Rattle.site_core.specs.declared.fault.DeviceFault.{DeviceFault}
use Rattle.site_core.specs.declared.answers.Issued.{Issued}
use Rattle.site_core.specs.declared.answers.Issued.TheVariants.{Taken, NotTaken, Lost}
use Rattle.site_core.specs.declared.answers.Settled.{Settled}
use Rattle.site_core.specs.declared.answers.Settled.TheVariants.{Written, Again, Dead}
use Rattle.site_core.specs.State.{Seen}
use Rattle.site_core.specs.Passes.{StaysWithin}
use Rattle.book_model.specs.declared.next.RomNext.{RomNext}
use Rattle.book_model.specs.declared.next.RomNext.TheVariants as next
use Rattle.book_model.specs.declared.next.RomOutcome.{RomOutcome}
use Rattle.book_model.specs.declared.next.RomOutcome.TheVariants as outcomes
use Rattle.book_model.specs.Book.{Issuing, Settling}
use Rattle.site_journal.specs.Ready.{issue_outcome, settle_outcome}
use Rattle.station_jobs.specs.declared.log.Assignment.{Assignment}
use Rattle.station_jobs.specs.Jobs.{DoneInTurn, Led}
use Rattle.station_jobs.specs.Left.{CameBackInTurn}
use Rattle.station_jobs.specs.Working.{CallsSlave, HalfReturns, SlaveReturns, LeftInCall, IsWorked}
use Rattle.station_jobs.proofs.LeftLaws as left

-- ---- a slave that is idle came to rest

-- its words are those of this idle half
rested-words : (half rested later : SlaveHalf) → later.station ≡ half.station → rested.station ≡ half.station → rested.activity ≡ Idle → IsIdle later → later.words ≡ rested.words → OnlyRests rested later
rested-words half rested later station same idle is words = record { station = station ∙ sym same; words = inl (words, ap in_flight is ∙ sym (ap in_flight idle)) }

-- a half that is idle, and could only come to rest, had come to rest before
rest-first : (activity : Activity) (half later : SlaveHalf) → half.activity ≡ activity → OnlyRests half later → IsIdle later → (rested : SlaveHalf) × MayRest half rested × IsIdle rested × OnlyRests rested later
rest-first Idle half later is rests idle = (half, inl refl, is, rests)
rest-first Reading half later is rests idle =
    let rested : SlaveHalf = record half { activity = Idle } in
    let words : later.words ≡ half.words = elim rests.words [ inl same ↦ same.0 | inr left ↦ subst (λ (a : Activity). MayHold a half.words later.words) is left.1 ] in
    (rested, inr (subst (λ (a : Activity). MayEnd a half rested) (sym is) (inl refl)), refl, rested-words half rested later rests.station refl refl idle words)
rest-first (Writing word value) half later is rests idle =
    elim rests.words [
      | inl same ↦ absurd (let flight : in_flight later.activity ≡ in_flight (Writing word value) = same.1 ∙ ap in_flight is in let none : in_flight later.activity ≡ in_flight Idle = ap in_flight idle in cc)
      | inr left ↦
          let held = subst (λ (a : Activity). MayHold a half.words later.words) is left.1 in
          let rested : SlaveHalf = with_errors (settled half word held.0) true false in
          (rested, inr (subst (λ (a : Activity). MayEnd a half rested) (sym is) (inr (record { left = held.0; ends = record { error = refl; rested_is = refl } }))), refl, rested-words half rested later rests.station refl refl idle held.1)
    ]

module _ (slave : ℕ) where
  call-stays : (job : RomNext) (outcome : RomOutcome) (old new : Seen) → CallsSlave slave job outcome old new → StaysWithin (LeftInCall slave job old.state) old new
  call-stays (next.Issue word value) outcome old new calls = let i = calls.issues in i.stays
  call-stays (next.Settle taken) outcome old new calls = let s = calls.settles in s.quiet.adds
  call-stays next.Idle outcome old new calls = absurd calls
  call-stays next.Stop outcome old new calls = absurd calls

  -- ---- an issue

  issue-half : (word value : ℕ) (issued : Issued) (old new : Seen) (half later : SlaveHalf) → BecomesIssued old slave word value new issued half later
      → HalfReturns slave (next.Issue word value) (outcomes.Issued issued) half later
  issue-half word value Taken old new half later takes =
      record { taken = true; begun = later; begins = takes; rested = later; rests = inl refl; operation = Issuing word value; operation_is = refl; comes_back = (refl, refl) }
  issue-half word value NotTaken old new half later rests =
      record { taken = false; begun = later; begins = rests.0; rested = later; rests = inl refl; operation = Issuing word value; operation_is = refl; comes_back = (refl, refl) }
  issue-half word value Lost old new half later lost =
      elim lost.0 [
        | inl rests ↦ record { taken = false; begun = later; begins = rests; rested = later; rests = inl refl; operation = Issuing word value; operation_is = refl; comes_back = refl }
        | inr takes ↦ record { taken = true; begun = later; begins = takes; rested = later; rests = inl refl; operation = Issuing word value; operation_is = refl; comes_back = refl }
      ]

  issue-returns : (word value : ℕ) (result : Result Issued DeviceFault) (old new : Seen) → IssuesWord old slave word value result new → (IsTrue new.is_stopped → ⊥)
      → SlaveReturns slave (next.Issue word value) (issue_outcome result) old.state new.state
  issue-returns word value (Ok issued) old new issues going =
      let goes = issues.half issued refl in
      record { half = goes.half; here = goes.here; later = goes.later; new_is = goes.new_is; goes = issue-half word value issued old new goes.half goes.later goes.goes }
  issue-returns word value (Err fault) old new issues going = let only = issues.only_stopped in absurd (going (issues.stopped.1 (ap Err only)))

  -- ---- a settle

  settle-half : (taken : Bool) (settled : Settled) (old new : Seen) (half later : SlaveHalf) → BecomesSettled old slave taken new settled half later
      → HalfReturns slave (next.Settle taken) (outcomes.Settled settled) half later
  settle-half true Written old new half later goes =
      record { taken = false; begun = half; begins = refl; rested = later; rests = goes.1; operation = Settling 0 0 true; operation_is = (0, 0, refl); comes_back = (refl, goes.2, refl) }
  settle-half false Written old new half later goes = let never = goes.0 in absurd cc
  settle-half taken Again old new half later goes =
      let r = rest-first half.activity half later refl goes.0 goes.1 in
      record { taken = false; begun = half; begins = refl; rested = r.0; rests = r.1; operation = Settling 0 0 taken; operation_is = (0, 0, refl); comes_back = (r.2, r.3) }
  settle-half taken Dead old new half later goes =
      record { taken = false; begun = half; begins = refl; rested = half; rests = inl refl; operation = Settling 0 0 taken; operation_is = (0, 0, refl); comes_back = MayRest-only half later goes.0 }

  settle-returns : (taken : Bool) (result : Result Settled DeviceFault) (old new : Seen) → SettlesSlave old slave taken result new → (IsTrue new.is_stopped → ⊥)
      → SlaveReturns slave (next.Settle taken) (settle_outcome result) old.state new.state
  settle-returns taken (Ok settled) old new settles going =
      let goes = settles.half settled refl in
      record { half = goes.half; here = goes.here; later = goes.later; new_is = goes.new_is; goes = settle-half taken settled old new goes.half goes.later goes.goes }
  settle-returns taken (Err fault) old new settles going = let only = settles.only_stopped in absurd (going (settles.stopped.1 (ap Err only)))

  -- ---- an issue or a settle

  call-returns : (job : RomNext) (outcome : RomOutcome) (old new : Seen) → CallsSlave slave job outcome old new → (IsTrue new.is_stopped → ⊥) → SlaveReturns slave job outcome old.state new.state
  call-returns (next.Issue word value) outcome old new calls going =
      subst (λ (o : RomOutcome). SlaveReturns slave (next.Issue word value) o old.state new.state) (sym calls.outcome_is) (issue-returns word value calls.result old new calls.issues going)
  call-returns (next.Settle taken) outcome old new calls going =
      subst (λ (o : RomOutcome). SlaveReturns slave (next.Settle taken) o old.state new.state) (sym calls.outcome_is) (settle-returns taken calls.result old new calls.settles going)
  call-returns next.Idle outcome old new calls going = absurd calls
  call-returns next.Stop outcome old new calls going = absurd calls

  -- each job began and returned
  pub calls-came-back : (log : List (Assignment RomNext RomOutcome)) (old new : Seen) → DoneInTurn (CallsSlave slave) log old new → CameBackInTurn (SlaveReturns slave) log old.state new.state
  calls-came-back log old new turn = left.came-back (CallsSlave slave) (SlaveReturns slave) (LeftInCall slave) call-stays call-returns log old new turn

  -- the calls of a log
  pub worked : (log : List (Assignment RomNext RomOutcome)) (old new : Seen) → Led (CallsSlave slave) log old new → IsWorked slave log old new
  worked log old new led = left.served (CallsSlave slave) (SlaveReturns slave) (LeftInCall slave) call-stays call-returns log old new led

  -- the site has stopped only if the outcome says so
  pub call-goes : (job : RomNext) (outcome : RomOutcome) (old new : Seen) → CallsSlave slave job outcome old new → (outcome ≡ outcomes.Stopped → ⊥) → IsTrue new.is_stopped → ⊥
  call-goes (next.Issue word value) outcome old new calls not stopped = let i = calls.issues in not (calls.outcome_is ∙ ap issue_outcome (i.stopped.0 stopped))
  call-goes (next.Settle taken) outcome old new calls not stopped = let s = calls.settles in not (calls.outcome_is ∙ ap settle_outcome (s.stopped.0 stopped))
  call-goes next.Idle outcome old new calls not stopped = absurd calls
  call-goes next.Stop outcome old new calls not stopped = absurd calls
