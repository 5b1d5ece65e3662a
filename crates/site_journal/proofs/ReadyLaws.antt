-- A station stays ready.
use Rattle.std.proofs.Common.{◌≡◌, ◌≢◌, ℕ, ◌<◌, Bool, true, false, List, [], length, refl, sym, ◌∙◌, ap, subst, arith, Result, Ok, Err}
use Rattle.std.specs.Prelude.{◌↔◌, is_some, nat_lt, IsErrOf, IsTrue}
use Rattle.std.proofs.lemmas.Bool.Decides.{nat_tests}
use Rattle.sii_words.specs.Redo.{redone}
use Rattle.jrn_format.specs.declared.journal.Journal.{Journal}
use Rattle.esc_rom.specs.Access.{IssuesWord, SettlesSlave}
use Rattle.site_core.specs.declared.fault.DeviceFault.{DeviceFault}
use Rattle.site_core.specs.declared.fault.DeviceFault.TheVariants as device
use Rattle.site_core.specs.declared.answers.Issued.{Issued}
use Rattle.site_core.specs.declared.answers.Settled.{Settled}
use Rattle.site_core.specs.declared.answers.Settled.TheVariants.{Written, Again, Dead}
use Rattle.site_core.specs.State.{Seen}
use Rattle.book_model.specs.Cells.{cell_of}
use Rattle.book_model.specs.declared.next.DiskNext.{DiskNext}
use Rattle.book_model.specs.declared.next.DiskNext.TheVariants as disk
use Rattle.book_model.specs.declared.next.RomNext.{RomNext}
use Rattle.book_model.specs.declared.next.RomNext.TheVariants as next
use Rattle.book_model.specs.declared.next.RomOutcome.{RomOutcome}
use Rattle.book_model.specs.declared.next.RomOutcome.TheVariants as outcomes
use Rattle.book_model.specs.Entries.{live_runs}
use Rattle.book_model.specs.Book.{Book, Doing, Resting, Payload, PayloadSync, OpenGate, OpenSync, CloseGate, CloseSync, FarGate, Mark, MarkSync, Version, VersionSync, Operation, NoOperation, Issuing, Unsettled, Settling, slave_at}
use Rattle.book_model.specs.DiskSteps.{went_on, disk_next, disk_done}
use Rattle.book_model.specs.RomSteps.{is_last, with_again, rom_next, rom_done}
use Rattle.book_model.specs.Machine.{Machine}
use Rattle.book_model.specs.Kept.{Kept}
use Rattle.book_model.specs.Events.{rested}
use Rattle.book_model.specs.Opening.{words_in, IsFound, book_on}
use Rattle.book_model.proofs.OpeningLaws.{up-opens}
use Rattle.book_model.proofs.SlaveEventLaws as events
use Rattle.site_journal.specs.Running.{CallsDisk, UpAfterDisk}
use Rattle.site_journal.specs.Ready.{IsReady, issue_outcome, settle_outcome}
use Rattle.site_journal.proofs.DiskRuns.{IsAction, disk-runs, out-of}
use Rattle.site_journal.proofs.WordRuns.{handed, issues-as, settles-as, issue-runs, settle-runs}

-- ---- the disk

went-rests : (book : Book) (doing : Doing) → (went_on book doing).is_handed_out ≡ book.is_handed_out
went-rests book Resting = refl
went-rests book (Payload place entries) = refl
went-rests book (PayloadSync place entries) = refl
went-rests book (OpenGate place entries) = refl
went-rests book (OpenSync place entries) = refl
went-rests book CloseGate = refl
went-rests book CloseSync = refl
went-rests book FarGate = refl
went-rests book Mark = refl
went-rests book MarkSync = refl
went-rests book Version = refl
went-rests book VersionSync = refl

-- in a fault nothing is handed out
fault-stops : (book : Book) → book.is_handed_out ≡ false → is_some book.fault ≡ true → (disk_next book).0 ≡ disk.Stop
fault-stops book rests fault = rw (rests, fault) refl

called-action : (action : DiskNext) (old : Seen) (result : Result (Unit {0}) DeviceFault) (new : Seen) → CallsDisk action old result new → IsAction action
called-action (disk.Write at bytes) old result new call = tt
called-action (disk.Gate at closed) old result new call = tt
called-action disk.Sync old result new call = tt
called-action disk.Idle old result new call = absurd call
called-action disk.Stop old result new call = absurd call

-- the site has stopped, and that is a fault
closed-ready : (book : Book) (seen : Seen) → book.is_handed_out ≡ false → is_some book.fault ≡ true → IsTrue seen.is_stopped → IsReady book seen
closed-ready book seen rests fault stopped = record { rests = rests; up = λ none. let e : true ≡ false = sym fault ∙ none in absurd cc; going = λ still. absurd (still stopped) }

-- how a device call ends
pub call-ends : (action : DiskNext) (old new : Seen) (result : Result (Unit {0}) DeviceFault) → CallsDisk action old result new
    → (IsTrue new.is_stopped ↔ IsErrOf result device.Stopped) × (result ≢ Err device.Lost)
call-ends (disk.Write at bytes) old new result call = (call.writes.call.stopped, call.writes.not_lost)
call-ends (disk.Gate at closed) old new result call = (call.writes.call.stopped, call.writes.not_lost)
call-ends disk.Sync old new result call = (call.call.stopped, call.not_lost)
call-ends disk.Idle old new result call = absurd call
call-ends disk.Stop old new result call = absurd call

module _ (book : Book) (old new : Seen) (ready : IsReady book old) where
  disk-ready-as : (failed : Bool) (result : Result (Unit {0}) DeviceFault) → is_some book.fault ≡ failed → CallsDisk (disk_next book).0 old result new → IsReady (disk_done (disk_next book).1 result) new
  disk-ready-as true result fault call = absurd (subst (λ (a : DiskNext). CallsDisk a old result new) (fault-stops book ready.rests fault) call)
  disk-ready-as false result fault call =
      let u = ready.up fault in
      let out : (disk_next book).1.is_handed_out ≡ true = let o = out-of u.0 book u.1 u.2 old u.3 (disk_next book).0 refl (called-action (disk_next book).0 old result new call) in o.0 in
      let ran = disk-runs u.0 book u.1 u.2 old u.3 result new call in
      by-result result out ((call-ends (disk_next book).0 old new result call).0.1) ran.1
    where
      by-result : (result : Result (Unit {0}) DeviceFault) → (disk_next book).1.is_handed_out ≡ true → (result ≡ Err device.Stopped → IsTrue new.is_stopped)
          → UpAfterDisk (ready.up fault).0 (disk_next book).1 (ready.up fault).1 (ready.up fault).2 new result → IsReady (disk_done (disk_next book).1 result) new
      by-result (Ok done) out stopped after =
          record { rests = rw out (went-rests (rested (disk_next book).1) (disk_next book).1.doing); up = λ none. (_, _, _, after); going = λ still. (_, _, _, after) }
      by-result (Err device.Disk) out stopped after = record { rests = rw out refl; up = λ none. (_, _, _, after); going = λ still. (_, _, _, after) }
      by-result (Err device.Lost) out stopped after = absurd after
      by-result (Err device.Stopped) out stopped after = closed-ready (disk_done (disk_next book).1 (Err device.Stopped)) new (rw out refl) (rw out refl) (stopped refl)

  pub disk-ready : (result : Result (Unit {0}) DeviceFault) → CallsDisk (disk_next book).0 old result new → IsReady (disk_done (disk_next book).1 result) new
  disk-ready result call = disk-ready-as (is_some book.fault) result refl call

-- ---- a slave

module _ (book : Book) (i : ℕ) (within : i < length book.slaves) where
  there : nat_lt i (length book.slaves) ≡ true
  there = grind (arith, nat_tests)

  -- in a fault nothing is asked of a slave
  fault-idle : (operation : Operation) → (slave_at book i).operation ≡ operation → is_some book.fault ≡ true → events.IsNothing (rom_next book i).0
  fault-idle NoOperation is fault = let a : (rom_next book i).0 ≡ next.Stop = rw (there, is, fault) refl in subst events.IsNothing (sym a) tt
  fault-idle (Issuing word value) is fault = let a : (rom_next book i).0 ≡ next.Idle = rw (there, is) refl in subst events.IsNothing (sym a) tt
  fault-idle (Unsettled word value taken) is fault = let a : (rom_next book i).0 ≡ next.Stop = rw (there, is, fault) refl in subst events.IsNothing (sym a) tt
  fault-idle (Settling word value taken) is fault = let a : (rom_next book i).0 ≡ next.Idle = rw (there, is) refl in subst events.IsNothing (sym a) tt

  sound-by : (failed : Bool) → is_some book.fault ≡ failed → (events.IsNothing (rom_next book i).0 → ⊥) → is_some book.fault ≡ false
  sound-by true fault some = absurd (some (fault-idle (slave_at book i).operation refl fault))
  sound-by false fault some = fault

  pub asked-sound : (events.IsNothing (rom_next book i).0 → ⊥) → is_some book.fault ≡ false
  asked-sound = sound-by (is_some book.fault) refl

  abbrev Rests : RomNext × Book → Type 0
  Rests a = a.1.is_handed_out ≡ book.is_handed_out

  asked-rests : events.Asks book i → Rests (rom_next book i)
  asked-rests (events.nothing answer none is) = subst Rests (sym is) refl
  asked-rests (events.issue w others todo is) = subst Rests (sym is) refl
  asked-rests (events.settle word value taken operation is) = subst Rests (sym is) refl

again-rests : (book : Book) (i word : ℕ) (last : Bool) → is_last (cell_of (slave_at book i).cells word).known ≡ last → (with_again book i word).is_handed_out ≡ book.is_handed_out
again-rests book i word true is = rw is refl
again-rests book i word false is = rw is refl

back-rests : (book : Book) (i : ℕ) (operation : Operation) (outcome : RomOutcome) → (slave_at book i).operation ≡ operation → (rom_done book i outcome).is_handed_out ≡ book.is_handed_out
back-rests book i NoOperation outcome is = rw is refl
back-rests book i (Unsettled word value taken) outcome is = rw is refl
back-rests book i (Issuing word value) (outcomes.Issued how) is = rw is refl
back-rests book i (Issuing word value) (outcomes.Settled how) is = rw is refl
back-rests book i (Issuing word value) outcomes.Stopped is = rw is refl
back-rests book i (Settling word value taken) (outcomes.Issued how) is = rw is refl
back-rests book i (Settling word value taken) (outcomes.Settled Written) is = rw is refl
back-rests book i (Settling word value taken) (outcomes.Settled Again) is =
    let done : rom_done book i (outcomes.Settled Again) ≡ with_again book i word = rw is refl in
    ap (λ (b : Book). b.is_handed_out) done ∙ again-rests book i word (is_last (cell_of (slave_at book i).cells word).known) refl
back-rests book i (Settling word value taken) (outcomes.Settled Dead) is = rw is refl
back-rests book i (Settling word value taken) outcomes.Stopped is = rw is refl

module _ (book : Book) (old new : Seen) (ready : IsReady book old) (i : ℕ) (within : i < length book.slaves) where
  abbrev later : Book
  later = (rom_next book i).1

  back : (outcome : RomOutcome) → (rom_done later i outcome).is_handed_out ≡ false
  back outcome = back-rests later i (slave_at later i).operation outcome refl ∙ asked-rests book i within (handed book i within) ∙ ready.rests

  module _ (word value : ℕ) (is : (rom_next book i).0 ≡ next.Issue word value) where
    issued : (result : Result Issued DeviceFault) → IssuesWord old i word value result new → is_some book.fault ≡ false → IsReady (rom_done later i (issue_outcome result)) new
    issued (Ok how) issues none =
        let u = ready.up none in
        let ran = issue-runs u.0 book u.1 u.2 old i u.3 within word value is (Ok how) new issues in
        record { rests = back (outcomes.Issued how); up = λ fine. (u.0, _, u.2, ran.1.1); going = λ still. (u.0, _, u.2, ran.1.1) }
    issued (Err fault) issues none =
        let e = issues.only_stopped in
        closed-ready (rom_done later i outcomes.Stopped) new (back outcomes.Stopped) (rw (issues-as book i within word value (handed book i within) is) refl) (issues.stopped.1 (ap Err e))

    pub issue-ready : (result : Result Issued DeviceFault) → IssuesWord old i word value result new → IsReady (rom_done later i (issue_outcome result)) new
    issue-ready result issues = issued result issues (asked-sound book i within (λ none. subst events.IsNothing is none))

  module _ (taken : Bool) (is : (rom_next book i).0 ≡ next.Settle taken) where
    settled : (result : Result Settled DeviceFault) → SettlesSlave old i taken result new → is_some book.fault ≡ false → IsReady (rom_done later i (settle_outcome result)) new
    settled (Ok how) settles none =
        let u = ready.up none in
        let ran = settle-runs u.0 book u.1 u.2 old i u.3 within taken is (Ok how) new settles in
        record { rests = back (outcomes.Settled how); up = λ fine. (u.0, u.1, u.2, ran.1); going = λ still. (u.0, u.1, u.2, ran.1) }
    settled (Err fault) settles none =
        let s = settles-as book i within taken (handed book i within) is in
        let e = settles.only_stopped in
        closed-ready (rom_done later i outcomes.Stopped) new (back outcomes.Stopped) (rw s.2 refl) (settles.stopped.1 (ap Err e))

    pub settle-ready : (result : Result Settled DeviceFault) → SettlesSlave old i taken result new → IsReady (rom_done later i (settle_outcome result)) new
    settle-ready result settles = settled result settles (asked-sound book i within (λ none. subst events.IsNothing is none))

-- ---- an open

-- whatever is found is kept for the machine whose session begins with it
found-kept : (journal : Journal) (seen : Seen) → IsFound journal seen.state
    → Kept seen.state.disk.bytes (words_in seen.state.halves) (record { origin = redone (words_in seen.state.halves) (live_runs journal.batches); kept = []; accepted = []; acknowledged = 0 })
found-kept journal seen found = record { journal = journal; live = found.is_journal; k = 0; may_keep = (omega arith, omega arith); same = refl }

pub opened-ready : (journal : Journal) (seen : Seen) (took : List Bool) → length took ≡ length seen.state.halves → IsFound journal seen.state → IsReady (book_on seen.state journal) seen
opened-ready journal seen took long found =
    let machine : Machine = record { origin = redone (words_in seen.state.halves) (live_runs journal.batches); kept = []; accepted = []; acknowledged = 0 } in
    let o = up-opens journal seen.state took machine found long (found-kept journal seen found) in
    record { rests = refl; up = λ none. (o.frame, took, _, o.up); going = λ still. (o.frame, took, _, o.up) }
