-- Each call about the disk is an event of the main law, in which the disk changes as the log says.
use Rattle.std.proofs.Common.{◌≡◌, ◌≢◌, ◌⊎◌, ◌∙◌, inl, inr, Bool, true, false, ◌∷◌, List, [], refl, sym, ap, subst, arith, Option, Some, None, Result, Ok, Err}
use Rattle.std.specs.Prelude.{is_some, fold}
use Rattle.site_core.specs.declared.fault.DeviceFault.{DeviceFault}
use Rattle.site_core.specs.declared.fault.DeviceFault.TheVariants as device
use Rattle.site_core.specs.Disk.{Disk}
use Rattle.site_core.specs.State.{State}
use Rattle.book_model.specs.declared.fault.Fault.{Fault}
use Rattle.book_model.specs.declared.fault.Fault.TheVariants as faults
use Rattle.book_model.specs.declared.next.DiskNext.{DiskNext}
use Rattle.book_model.specs.declared.next.DiskNext.TheVariants as disk
use Rattle.book_model.specs.Book.{Book, with_fault}
use Rattle.book_model.specs.DiskSteps.{disk_next, disk_done}
use Rattle.book_model.specs.Events.{begun_on, ended_on, FailsOn, in_progress, rested}
use Rattle.world_law.specs.World.{Nothing, Closed, DiskBegin, DiskDone}
use Rattle.world_law.specs.Happenings.{reported_of}
use Rattle.station_jobs.specs.Dispatch.{with_outcome}
use Rattle.desk_book.specs.declared.call.Call.{Call}
use Rattle.desk_book.specs.Calls.{AreAnswered}
use Rattle.desk_book.specs.Logs.{DiskEntry, disk_noted, with_disk_answer}
use Rattle.desk_book.proofs.LogLaws.{with-disk-job, with-disk-rest}
use Rattle.desk_laws.proofs.DiskWork.{LeavesLess, DiskSteps, DiskLedBy}
use Rattle.desk_laws.proofs.DiskLog.{Handed, nothing, hands, handed-of, done-rests, KeepsDisk, disk-afterwards}
use Rattle.desk_laws.proofs.WorldLaws.{Stays, happens}

-- What stands for the disk, while this is the disk itself before what is out: it is this one; or that failed, and a stop leaves no more of it; or an action
-- has begun on it.
pub data DiskOn (book : Book) (log : List DiskEntry) (real stands : Disk) : Type 0 where
  rests : book.is_handed_out ≡ false → log ≡ [] → stands ≡ real → DiskOn book log real stands
  failed : book.is_handed_out ≡ false → is_some book.fault ≡ true → log ≡ [] → LeavesLess stands real → DiskOn book log real stands
  out : book.is_handed_out ≡ true → (action : DiskNext) (outcome : Option (Result (Unit {0}) DeviceFault)) → in_progress book ≡ Some action → log ≡ record { job = action; outcome = outcome } ∷ [] → stands ≡ begun_on (Some action) real
      → DiskOn book log real stands

pub disk-keeps : (book later : Book) (log : List DiskEntry) (real stands : Disk) → KeepsDisk book later → DiskOn book log real stands → DiskOn later log real stands
disk-keeps book later log real stands keeps (rests vacant empty same) = rests (keeps.out ∙ vacant) empty same
disk-keeps book later log real stands keeps (failed vacant has empty less) = failed (keeps.out ∙ vacant) (keeps.failed has) empty less
disk-keeps book later log real stands keeps (out is action outcome there one begun) = out (keeps.out ∙ is) action outcome (keeps.action ∙ there) one begun

-- The pending part of the log, what stands for the disk, and that the rest leads the disk to the end.
pub record DiskPart (book : Book) (calls : List Call) (end stands : Disk) : Type 0 where
  pub log : List DiskEntry
  pub real : Disk
  pub on : DiskOn book log real stands
  pub led : DiskLedBy (fold disk_noted log calls) real end

-- The main law's invariant holds after the call.
pub record DiskGoesOn (later : Book) (calls : List Call) (end : Disk) (state : State) (took : List Bool) : Type 0 where
  pub disk : Disk
  pub stays : Stays later (record state { disk = disk }) took
  pub part : DiskPart later calls end disk

-- a write that has begun may fail and change nothing
fails-same : (action : Option DiskNext) (d : Disk) → FailsOn action d d
fails-same None d = refl
fails-same (Some (disk.Write at bytes)) d = record { bytes = λ place is. refl; no_shorter = omega arith; unsynced = refl; synced_length = refl }
fails-same (Some (disk.Gate at closed)) d = record { bytes = λ place is. refl; no_shorter = omega arith; unsynced = refl; synced_length = refl }
fails-same (Some disk.Sync) d = refl
fails-same (Some disk.Idle) d = refl
fails-same (Some disk.Stop) d = refl

module _ (book : Book) (calls : List Call) (end : Disk) (state : State) (took : List Bool) (stays : Stays book state took) (log : List DiskEntry) (real : Disk) where
  abbrev OnAfter : Book → Type 0
  OnAfter later = DiskGoesOn later calls end state took

  -- ---- it is asked for

  asked-as : (answer : DiskNext) → answer ≡ (disk_next book).0 → DiskOn book log real state.disk → DiskLedBy (fold disk_noted (with_disk_answer log answer) calls) real end → Handed book → OnAfter (disk_next book).1
  asked-as answer is on led (nothing rest none goes) =
      let log_is : with_disk_answer log answer ≡ log = ap (with_disk_answer log) (is ∙ ap (λ (p : DiskNext × Book). p.0) goes) ∙ with-disk-rest log rest none in
      let later_is : (disk_next book).1 ≡ book = ap (λ (p : DiskNext × Book). p.1) goes in
      subst OnAfter (sym later_is)
      (record { disk = state.disk; stays = stays; part = record { log = log; real = real; on = on; led = subst (λ (l : List DiskEntry). DiskLedBy (fold disk_noted l calls) real end) log_is led } })
  asked-as answer is (rests vacant empty same) led (hands action o f job there goes out_is) =
      let one : with_disk_answer log answer ≡ record { job = action; outcome = None } ∷ [] =
      ap (with_disk_answer log) (is ∙ goes) ∙ ap (λ (l : List DiskEntry). with_disk_answer l action) empty ∙ with-disk-job [] action job in
      record {
        disk = begun_on (Some action) state.disk;
        stays = subst (λ (a : DiskNext). Stays (disk_next book).1 (record state { disk = begun_on (Some a) state.disk }) took) goes
            (happens DiskBegin Nothing book (disk_next book).1 state (record state { disk = begun_on (Some (disk_next book).0) state.disk }) took took stays tt (book, refl, (refl, refl)));
        part = record { log = with_disk_answer log answer; real = real; on = out out_is action None there one (ap (begun_on (Some action)) same); led = led };
      }
  asked-as answer is (failed vacant has empty less) led (hands action o f job there goes out_is) = absurd (let no : true ≡ false = sym has ∙ f in cc)
  asked-as answer is (out is_out action_out outcome there_out one begun) led (hands action o f job there goes out_is) = absurd (let no : true ≡ false = sym is_out ∙ o in cc)

  pub disk-asked : (answer : DiskNext) → answer ≡ (disk_next book).0 → DiskOn book log real state.disk → DiskLedBy (fold disk_noted (with_disk_answer log answer) calls) real end → OnAfter (disk_next book).1
  disk-asked answer is on led = asked-as answer is on led (handed-of book)

  -- ---- it comes back

  -- what came of it, and the rest of the log
  record Back (action : DiskNext) (outcome : Result (Unit {0}) DeviceFault) : Type 0 where
    mid : Disk
    steps : DiskSteps (record { job = action; outcome = Some outcome }) real mid
    led : DiskLedBy (fold disk_noted [] calls) mid end

  came-back : (later : Book) (action : DiskNext) (before : Option (Result (Unit {0}) DeviceFault)) (outcome : Result (Unit {0}) DeviceFault) → log ≡ record { job = action; outcome = before } ∷ [] → later.is_handed_out ≡ false → AreAnswered later calls
      → DiskLedBy (fold disk_noted (with_outcome log outcome) calls) real end → Back action outcome
  came-back later action before outcome one vacant all led =
      let entry : DiskEntry = record { job = action; outcome = Some outcome } in
      let afterwards = disk-afterwards later calls entry [] all (λ now. absurd (let no : true ≡ false = sym now ∙ vacant in cc)) in
      let path : DiskLedBy (entry ∷ fold disk_noted [] calls) real end =
      subst (λ (l : List DiskEntry). DiskLedBy l real end) (ap (λ (l : List DiskEntry). fold disk_noted (with_outcome l outcome) calls) one ∙ afterwards) led in
      record { mid = path.0; steps = path.1; led = path.2 }

  -- it came back with a fault
  faulted : (disk : Disk) (why : DeviceFault) (fault : Fault) → why ≢ device.Lost → disk_done book (Err why) ≡ with_fault (rested book) fault → book.is_handed_out ≡ true → FailsOn (in_progress book) state.disk disk
      → (mid : Disk) → ((disk ≡ mid) ⊎ LeavesLess disk mid) → DiskLedBy (fold disk_noted [] calls) mid end → OnAfter (disk_done book (Err why))
  faulted disk why fault not is is_out fails mid stands led = record {
    disk = disk;
    stays = happens (DiskDone (Err why)) Closed book (disk_done book (Err why)) state (record state { disk = disk }) took took stays tt (book, refl, (is_out, (disk, not, fails, refl, refl)));
    part = record {
      log = [];
      real = mid;
      on = subst (λ (b : Book). DiskOn b [] mid disk) (sym is) (elim stands [ inl same ↦ rests refl refl same | inr less ↦ failed refl refl refl less ]);
      led = led;
    };
  }

  module _ (is_out : book.is_handed_out ≡ true) (action : DiskNext) (before : Option (Result (Unit {0}) DeviceFault)) (there : in_progress book ≡ Some action) (one : log ≡ record { job = action; outcome = before } ∷ []) (begun : state.disk ≡ begun_on (Some action) real) where
    abbrev Reported : Result (Unit {0}) DeviceFault → Type 0
    Reported outcome = AreAnswered (disk_done book outcome) calls → DiskLedBy (fold disk_noted (with_outcome log outcome) calls) real end → OnAfter (disk_done book outcome)

    -- as the action that is out
    as-out : (disk : Disk) → FailsOn (Some action) (begun_on (Some action) real) disk → FailsOn (in_progress book) state.disk disk
    as-out disk fails = subst (λ (a : Option DiskNext). FailsOn a state.disk disk) (sym there) (subst (λ (d : Disk). FailsOn (Some action) d disk) (sym begun) fails)

    reported-as : (outcome : Result (Unit {0}) DeviceFault) → Reported outcome
    reported-as (Ok done) all led =
        let vacant = done-rests book is_out in
        let back = came-back (disk_done book (Ok tt)) action before (Ok tt) one vacant all led in
        let mid_is : back.mid ≡ ended_on (Some action) (begun_on (Some action) real) = back.steps.returns (Ok tt) refl (λ no. absurd cc) in
        let stands : ended_on (in_progress book) state.disk ≡ back.mid = ap (λ (a : Option DiskNext). ended_on a state.disk) there ∙ ap (ended_on (Some action)) begun ∙ sym mid_is in
        record {
          disk = ended_on (in_progress book) state.disk;
          stays = happens (DiskDone (Ok tt)) (reported_of book (disk_done book (Ok tt))) book (disk_done book (Ok tt)) state (record state { disk = ended_on (in_progress book) state.disk }) took took stays tt (book, refl, (is_out, (refl, refl)));
          part = record { log = []; real = back.mid; on = rests vacant refl stands; led = back.led };
        }
    reported-as (Err device.Disk) all led =
        let is : disk_done book (Err device.Disk) ≡ with_fault (rested book) faults.Disk = rw is_out refl in
        let back = came-back (disk_done book (Err device.Disk)) action before (Err device.Disk) one (ap (λ (b : Book). b.is_handed_out) is) all led in
        faulted back.mid device.Disk faults.Disk (λ no. absurd (cc no)) is is_out (as-out back.mid (back.steps.returns (Err device.Disk) refl (λ no. absurd cc))) back.mid (inl refl) back.led
    reported-as (Err device.Stopped) all led =
        let is : disk_done book (Err device.Stopped) ≡ with_fault (rested book) faults.Stopped = rw is_out refl in
        let back = came-back (disk_done book (Err device.Stopped)) action before (Err device.Stopped) one (ap (λ (b : Book). b.is_handed_out) is) all led in
        faulted state.disk device.Stopped faults.Stopped (λ no. absurd (cc no)) is is_out (fails-same (in_progress book) state.disk) back.mid (inr (subst (λ (d : Disk). LeavesLess d back.mid) (sym begun) back.steps.leaves)) back.led
    reported-as (Err device.Lost) all led =
        let is : disk_done book (Err device.Lost) ≡ book = rw is_out refl in
        subst OnAfter (sym is)
        (record {
          disk = state.disk;
          stays = stays;
          part = record { log = with_outcome log (Err device.Lost); real = real; on = out is_out action (Some (Err device.Lost)) there (ap (λ (l : List DiskEntry). with_outcome l (Err device.Lost)) one) begun; led = led };
        })

  pub disk-reported : (outcome : Result (Unit {0}) DeviceFault) → book.is_handed_out ≡ true → DiskOn book log real state.disk → AreAnswered (disk_done book outcome) calls → DiskLedBy (fold disk_noted (with_outcome log outcome) calls) real end
      → OnAfter (disk_done book outcome)
  disk-reported outcome now (rests vacant empty same) all led = absurd (let no : true ≡ false = sym now ∙ vacant in cc)
  disk-reported outcome now (failed vacant has empty less) all led = absurd (let no : true ≡ false = sym now ∙ vacant in cc)
  disk-reported outcome now (out is_out action before there one begun) all led = reported-as is_out action before there one begun outcome all led

-- what a stop leaves of the disk in the end, it leaves of what stands for it
pub disk-ends : (book : Book) (log : List DiskEntry) (real stands end : Disk) → DiskOn book log real stands → DiskLedBy log real end → LeavesLess stands end
disk-ends book log real stands end (rests vacant empty same) led =
    let less : LeavesLess real end = subst (λ (l : List DiskEntry). DiskLedBy l real end) empty led in
    subst (λ (d : Disk). LeavesLess d end) (sym same) less
disk-ends book log real stands end (failed vacant has empty less) led =
    let later : LeavesLess real end = subst (λ (l : List DiskEntry). DiskLedBy l real end) empty led in
    λ image stop. less image (later image stop)
disk-ends book log real stands end (out is_out action outcome there one begun) led =
    let path : DiskLedBy (record { job = action; outcome = outcome } ∷ []) real end = subst (λ (l : List DiskEntry). DiskLedBy l real end) one led in
    subst (λ (d : Disk). LeavesLess d end) (sym begun) (λ image stop. path.1.leaves image (path.2 image stop))
