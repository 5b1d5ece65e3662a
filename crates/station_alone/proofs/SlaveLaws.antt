-- What is handed out for a slave as a step of a recovery.
use Rattle.std.proofs.Common.{◌≡◌, inl, inr, ℕ, ◌+◌, ◌<◌, ◌≤◌, Bool, [], length, refl, sym, ◌∙◌, ap, subst, arith, Result, Ok, Err}
use Rattle.std.specs.Prelude.{is_some, IsTrue}
use Rattle.esc_rom.specs.Access.{IssuesWord, SettlesSlave}
use Rattle.site_core.specs.declared.fault.DeviceFault.{DeviceFault}
use Rattle.site_core.specs.declared.answers.Issued.{Issued}
use Rattle.site_core.specs.declared.answers.Settled.{Settled}
use Rattle.site_core.specs.State.{clock}
use Rattle.book_model.specs.declared.fault.Fault.TheVariants as faults
use Rattle.book_model.specs.declared.next.RomNext.{RomNext}
use Rattle.book_model.specs.declared.next.RomNext.TheVariants as word
use Rattle.book_model.specs.Book.{Book}
use Rattle.book_model.specs.RomSteps.{rom_next}
use Rattle.site_journal.specs.Left.{calls_left}
use Rattle.site_journal.specs.Ready.{issue_outcome, settle_outcome}
use Rattle.site_journal.specs.Recovering.{GetsNearer, IsOfIssue, IsOfSettle, MayFail}
use Rattle.site_journal.proofs.WordLaws.{issue-done, settle-done}
use Rattle.site_journal.proofs.EndLaws.{slave-goes}
use Rattle.station_alone.specs.declared.choice.Choice.TheVariants as choices
use Rattle.station_alone.specs.declared.choice.Answer.{Answer}
use Rattle.station_alone.specs.declared.choice.Answer.TheVariants.{Did, Idle, Failed}
use Rattle.station_alone.specs.Station.{Station, Stands}
use Rattle.station_alone.specs.Steps.{DoesIssue, DoesSettle, Serves, done_with}
use Rattle.station_alone.specs.Keeping.{GoesOn, Keeps}
use Rattle.station_alone.specs.Recovery.{LeadsTo, StopsIn}
use Rattle.station_alone.specs.Rounds.{IsWorking, StaysKept, Works, SlaveRests, ServesSlave, reported, counted}
use Rattle.station_alone.proofs.KeepLaws.{goes-within}
use Rattle.station_alone.proofs.RowLaws.{up-of, leads-none, leads-one, works-none}
use Rattle.station_alone.proofs.RecoveryDiskLaws.{none-of, first-is}

of-issue : (result : Result Issued DeviceFault) → IsOfIssue (issue_outcome result)
of-issue (Ok issued) = tt
of-issue (Err fault) = tt

of-settle : (result : Result Settled DeviceFault) → IsOfSettle (settle_outcome result)
of-settle (Ok settled) = tt
of-settle (Err fault) = tt

-- it was done, or the fault that it met
abbrev Served : ℕ → RomNext → Answer → Station → Station → Type 0
Served slave next answer old new = ServesSlave slave (counted next (reported answer)) old new

module _ (old new : Station) (slave : ℕ) (working : IsWorking old) (stands : Stands new) (goes : GoesOn [] 10001 old new) (keeps : Keeps [] old new) where
  kept : (calls words : ℕ) → GetsNearer calls words old.book new.book → clock new.seen ≤ clock old.seen + calls → StaysKept old new
  kept calls words near within =
      let left = near.left in
      record { session = goes-within [] 10001 (calls_left old.book) old new goes (omega (arith, within, left)); keeps = keeps }

  works : (calls words : ℕ) → GetsNearer calls words old.book new.book → clock new.seen ≤ clock old.seen + calls → new.book.fault ≡ old.book.fault → LeadsTo old new → Works words old new
  works calls words near within same leads =
      let left = near.left in record {
        working = record { stands = stands; recovering = near.recovering; sound = ap is_some same ∙ working.sound };
        kept = kept calls words near within;
        leads = leads;
        left = omega (arith, within, left);
        issued = near.issued;
      }

  -- the site has stopped in this step
  stops : (answer : Answer) → answer ≡ Failed faults.Stopped → Serves (rom_next old.book slave).0 slave old answer new → IsTrue new.seen.is_stopped → StopsIn old new
  stops answer is step stop = record {
    mid = old;
    leads = leads-none old;
    choice = choices.Rom slave;
    of_recovery = tt;
    steps = subst (λ (a : Answer). Serves (rom_next old.book slave).0 slave old a new) is step;
    stopped = stop;
  }

  -- ---- an issue

  module _ (w value : ℕ) (answer : Answer) (is_next : (rom_next old.book slave).0 ≡ word.Issue w value) (does : DoesIssue slave w value old answer new) where
    issue-step : Serves (rom_next old.book slave).0 slave old answer new
    issue-step = subst (λ (n : RomNext). Serves n slave old answer new) (sym is_next) does

    issue-leads : LeadsTo old new
    issue-leads = leads-one (choices.Rom slave) answer old new tt issue-step

    issued : (result : Result Issued DeviceFault) → IssuesWord old.seen slave w value result new.seen → GetsNearer 1 1 old.book new.book → MayFail slave (issue_outcome result) old.book.fault new.book.fault
        → Served slave (word.Issue w value) answer old new
    issued (Ok how) issues near fault =
        let is : answer ≡ Did = does.answered ∙ ap done_with (fault ∙ none-of old.book.fault working.sound) in
        let left = near.left in
        let one = issues.clock in
        subst (λ (a : Answer). Served slave (word.Issue w value) a old new) (sym is)
        (record { goes = works 1 1 near (omega (arith, one)) fault issue-leads; few = omega arith; moves = inl (omega (arith, left)) })
    issued (Err other) issues near fault =
        let is : answer ≡ Failed faults.Stopped = does.answered ∙ ap done_with (fault ∙ first-is old.book.fault faults.Stopped working.sound) in
        let one = issues.clock in
        let stop = issues.stopped.1 (ap (λ (f : DeviceFault). Err f) issues.only_stopped) in
        subst (λ (a : Answer). Served slave (word.Issue w value) a old new) (sym is)
        (record { goes = record { kept = kept 1 1 near (omega (arith, one)); breaks = stops answer is issue-step stop }; few = tt; moves = tt })

    pub issue-serves : slave < length old.book.slaves → Served slave (word.Issue w value) answer old new
    issue-serves within =
        let u = up-of old working in
        let came = issue-done u.0 old.book old.seen.state u.1 u.2 slave u.3 working.recovering within w value (issue_outcome does.result) is_next (of-issue does.result) in
        let near = subst (GetsNearer 1 1 old.book) (sym does.book) came.0 in
        let fault = subst (λ (b : Book). MayFail slave (issue_outcome does.result) old.book.fault b.fault) (sym does.book) came.1 in
        issued does.result does.issues near fault

  -- ---- a settle

  module _ (taken : Bool) (answer : Answer) (is_next : (rom_next old.book slave).0 ≡ word.Settle taken) (does : DoesSettle slave taken old answer new) where
    settle-step : Serves (rom_next old.book slave).0 slave old answer new
    settle-step = subst (λ (n : RomNext). Serves n slave old answer new) (sym is_next) does

    settle-leads : LeadsTo old new
    settle-leads = leads-one (choices.Rom slave) answer old new tt settle-step

    settled : (result : Result Settled DeviceFault) → SettlesSlave old.seen slave taken result new.seen → GetsNearer 10001 0 old.book new.book → MayFail slave (settle_outcome result) old.book.fault new.book.fault
        → Served slave (word.Settle taken) answer old new
    settled (Ok how) settles near fault = elim fault [
      | inl same ↦
          let is : answer ≡ Did = does.answered ∙ ap done_with (same ∙ none-of old.book.fault working.sound) in
          let left = near.left in
          subst (λ (a : Answer). Served slave (word.Settle taken) a old new) (sym is)
          (record { goes = works 10001 0 near settles.quiet.within same settle-leads; few = omega arith; moves = inl (omega (arith, left)) })
      | inr dead ↦
          let is : answer ≡ Failed (faults.SlaveDead slave) = does.answered ∙ ap done_with (dead ∙ first-is old.book.fault (faults.SlaveDead slave) working.sound) in
          let why : DoesSettle slave taken old (Failed (faults.SlaveDead slave)) new = subst (λ (a : Answer). DoesSettle slave taken old a new) is does in
          subst (λ (a : Answer). Served slave (word.Settle taken) a old new) (sym is)
          (record { goes = record { kept = kept 10001 0 near settles.quiet.within; breaks = record { mid = old; leads = leads-none old; taken = taken; asked = is_next; settles = why } }; few = tt; moves = tt })
    ]
    settled (Err other) settles near fault =
        let is : answer ≡ Failed faults.Stopped = does.answered ∙ ap done_with (fault ∙ first-is old.book.fault faults.Stopped working.sound) in
        let stop = settles.stopped.1 (ap (λ (f : DeviceFault). Err f) settles.only_stopped) in
        subst (λ (a : Answer). Served slave (word.Settle taken) a old new) (sym is)
        (record { goes = record { kept = kept 10001 0 near settles.quiet.within; breaks = stops answer is settle-step stop }; few = tt; moves = tt })

    pub settle-serves : slave < length old.book.slaves → Served slave (word.Settle taken) answer old new
    settle-serves within =
        let u = up-of old working in
        let came = settle-done u.0 old.book old.seen.state u.1 u.2 slave u.3 working.recovering within taken (settle_outcome does.result) is_next (of-settle does.result) in
        let near = subst (GetsNearer 10001 0 old.book) (sym does.book) came.0 in
        let fault = subst (λ (b : Book). MayFail slave (settle_outcome does.result) old.book.fault b.fault) (sym does.book) came.1 in
        settled does.result does.settles near fault

-- ---- a step

rests : (old : Station) (slave : ℕ) → IsWorking old → SlaveRests slave old.book → Served slave word.Idle Idle old old
rests old slave working idle = record { goes = works-none old working; few = omega arith; moves = inr (refl, idle) }

pub slave-serves : (old new : Station) (slave : ℕ) (answer : Answer) (next : RomNext) → IsWorking old → slave < length old.book.slaves → Stands new → GoesOn [] 10001 old new → Keeps [] old new → (rom_next old.book slave).0 ≡ next
    → Serves next slave old answer new → ServesSlave slave (counted next (reported answer)) old new
slave-serves old new slave answer (word.Issue w value) working within stands goes keeps is does = issue-serves old new slave working stands goes keeps w value answer is does within
slave-serves old new slave answer (word.Settle taken) working within stands goes keeps is does = settle-serves old new slave working stands goes keeps taken answer is does within
slave-serves old new slave answer word.Idle working within stands goes keeps is n =
    subst (λ (a : Answer). Served slave word.Idle a old new) (sym n.answered) (subst (λ (s : Station). Served slave word.Idle Idle old s) (sym n.same) (rests old slave working is))
slave-serves old new slave answer word.Stop working within stands goes keeps is n = absurd (slave-goes old.book slave working.recovering working.sound within is)
