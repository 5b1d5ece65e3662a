-- An action of the disk, on any site.
use Rattle.std.proofs.Common.{◌≡◌, ℕ, Bool, true, false, List, [], ◌∷◌, length, refl, sym, ◌∙◌, ap, subst, Option, Some, None, Result, Ok, Err}
use Rattle.std.specs.Prelude.{is_some, if◌then◌else◌}
use Rattle.esc_model.specs.SlaveHalf.{SlaveHalf}
use Rattle.site_core.specs.declared.fault.DeviceFault.{DeviceFault}
use Rattle.site_core.specs.declared.fault.DeviceFault.TheVariants as device
use Rattle.site_core.specs.Disk.{Disk, WriteFailed, write_begun, written}
use Rattle.site_core.specs.State.{State, Leaves, Seen}
use Rattle.site_core.specs.Calls.{WritesDisk, SyncsDisk, begin_write}
use Rattle.site_core.specs.Passes.{StaysWithin}
use Rattle.site_core.proofs.DeviceCalls.{WritesDisk-left, SyncsDisk-adds_nothing}
use Rattle.book_model.specs.declared.next.DiskNext.{DiskNext}
use Rattle.book_model.specs.declared.next.DiskNext.TheVariants as next
use Rattle.book_model.specs.declared.fault.Fault.TheVariants as faults
use Rattle.book_model.specs.Book.{Book, Doing, Resting, Payload, PayloadSync, OpenGate, OpenSync, CloseGate, CloseSync, FarGate, Mark, MarkSync, Version, VersionSync, with_fault}
use Rattle.book_model.specs.DiskSteps.{action_of, doing_next, disk_next, disk_done}
use Rattle.book_model.specs.Machine.{Machine}
use Rattle.book_model.specs.Frame.{JournalFrame}
use Rattle.book_model.specs.Events.{gate_byte, begun_on, ended_on, FailsOn, in_progress, rested}
use Rattle.book_model.specs.Steps.{acknowledged_by}
use Rattle.book_model.specs.Up.{Up}
use Rattle.book_model.proofs.LineLaws.{up-kept}
use Rattle.book_model.proofs.DiskEventLaws.{up-begins, up-fails}
use Rattle.book_model.proofs.DiskEndLaws.{up-ends}
use Rattle.world_law.specs.Law.{KeptFor}
use Rattle.site_journal.specs.Running.{KeepsAll, CallsDisk, UpAfterDisk}
use Rattle.site_journal.proofs.GoLaws.{stays-weaker}

-- what a stop leaves all the way is some that a station that is up leaves
pub keeps-all : (frame : JournalFrame) (book : Book) (state : State) (took : List Bool) (m : Machine) (old new : Seen) → Up frame book state took m → StaysWithin (Leaves state) old new → KeepsAll m old new
keeps-all frame book state took m old new up stays = stays-weaker (Leaves state) (KeptFor m) old new (λ pair leaves. up-kept frame book state took m pair up leaves) stays

-- ---- what is handed out

-- something is to be done with the disk
abbrev pub IsAction : DiskNext → Type 0
IsAction (next.Write at bytes) = Unit {0}
IsAction (next.Gate at closed) = Unit {0}
IsAction next.Sync = Unit {0}
IsAction next.Idle = ⊥
IsAction next.Stop = ⊥

same-action : (book : Book) (doing : Doing) → action_of (record book { doing = doing; is_handed_out = true }) doing ≡ action_of book doing
same-action book Resting = refl
same-action book (Payload place entries) = refl
same-action book (PayloadSync place entries) = refl
same-action book (OpenGate place entries) = refl
same-action book (OpenSync place entries) = refl
same-action book CloseGate = refl
same-action book CloseSync = refl
same-action book FarGate = refl
same-action book Mark = refl
same-action book MarkSync = refl
same-action book Version = refl
same-action book VersionSync = refl

pub idle-or-stop : (finished : Bool) → IsAction (if finished then next.Stop else next.Idle) → ⊥
idle-or-stop true is = is
idle-or-stop false is = is

module _ (book : Book) where
  abbrev OutAs : DiskNext × Book → Type 0
  OutAs a = IsAction a.0 → (a.1.is_handed_out ≡ true) × (in_progress a.1 ≡ Some a.0)

  out-action : (action : Option DiskNext) → book.is_handed_out ≡ false → is_some book.fault ≡ false → action_of book (doing_next book book.doing) ≡ action → OutAs (disk_next book)
  out-action None out ok is =
      let answer : disk_next book ≡ (if book.is_finished then next.Stop else next.Idle, book) = rw (out, ok, is) refl in
      subst OutAs (sym answer) (λ action. absurd (idle-or-stop book.is_finished action))
  out-action (Some action) out ok is =
      let doing = doing_next book book.doing in
      let answer : disk_next book ≡ (action, record book { doing = doing; is_handed_out = true }) = rw (out, ok, is) refl in
      subst OutAs (sym answer) (λ action. (refl, same-action book doing ∙ is))

  out-fault : (failed : Bool) → book.is_handed_out ≡ false → is_some book.fault ≡ failed → OutAs (disk_next book)
  out-fault true out ok = let answer : disk_next book ≡ (next.Stop, book) = rw (out, ok) refl in subst OutAs (sym answer) (λ action. absurd action)
  out-fault false out ok = out-action (action_of book (doing_next book book.doing)) out ok refl

  out-as : (out : Bool) → book.is_handed_out ≡ out → OutAs (disk_next book)
  out-as true out = let answer : disk_next book ≡ (next.Idle, book) = rw out refl in subst OutAs (sym answer) (λ action. absurd action)
  out-as false out = out-fault (is_some book.fault) out refl

-- ---- the call

module _ (frame : JournalFrame) (book : Book) (took : List Bool) (m : Machine) (old : Seen) (up : Up frame book old.state took m) where
  abbrev later : Book
  later = (disk_next book).1

  -- the state once it has begun
  abbrev begun : DiskNext → State
  begun action = record old.state { disk = begun_on (Some action) old.state.disk }

  pub begun-up : (action : DiskNext) → (disk_next book).0 ≡ action → Up frame later (begun action) took m
  begun-up action is = subst (λ (a : DiskNext). Up frame later (begun a) took m) is (up-begins frame book old.state took m up)

  pub out-of : (action : DiskNext) → (disk_next book).0 ≡ action → IsAction action → (later.is_handed_out ≡ true) × (in_progress later ≡ Some action)
  out-of action is some = let o = out-as book book.is_handed_out refl (subst IsAction (sym is) some) in (o.0, o.1 ∙ ap Some is)

  -- it is done
  ends : (action : DiskNext) → (disk_next book).0 ≡ action → IsAction action → (new : State) → new ≡ record old.state { disk = ended_on (Some action) (begun_on (Some action) old.state.disk) }
      → Up frame (disk_done later (Ok tt)) new took (acknowledged_by (disk_done later (Ok tt)) m)
  ends action is some new new_is =
      let o = out-of action is some in
      let done = disk_done later (Ok tt) in
      let ended = up-ends frame later (begun action) took m (begun-up action is) o.0 in
      subst (λ (s : State). Up frame done s took (acknowledged_by done m)) (sym new_is)
      (subst (λ (a : Option DiskNext). Up frame done (record old.state { disk = ended_on a (begun_on (Some action) old.state.disk) }) took (acknowledged_by done m)) o.1 ended)

  -- the disk failed
  fails : (action : DiskNext) → (disk_next book).0 ≡ action → IsAction action → (disk : Disk) (new : State) → FailsOn (Some action) (begun_on (Some action) old.state.disk) disk → new ≡ record old.state { disk = disk }
      → Up frame (disk_done later (Err device.Disk)) new took m
  fails action is some disk new failed new_is =
      let o = out-of action is some in
      let done : disk_done later (Err device.Disk) ≡ with_fault (rested later) faults.Disk = rw o.0 refl in
      let on : FailsOn (in_progress later) (begun_on (Some action) old.state.disk) disk = subst (λ (a : Option DiskNext). FailsOn a (begun_on (Some action) old.state.disk) disk) (sym o.1) failed in
      subst (λ (b : Book). Up frame b new took m) (sym done)
      (subst (λ (s : State). Up frame (with_fault (rested later) faults.Disk) s took m) (sym new_is) (up-fails frame later (begun action) took m disk faults.Disk (begun-up action is) o.0 on))

  -- ---- a write

  write-ends : (action : DiskNext) (at : ℕ) (bytes : List ℕ) (new : Seen) (result : Result (Unit {0}) DeviceFault) → (disk_next book).0 ≡ action → IsAction action → WritesDisk old at bytes result new
      → written (write_begun old.state.disk at (length bytes)) at bytes ≡ ended_on (Some action) (begun_on (Some action) old.state.disk)
      → ((disk : Disk) → WriteFailed (write_begun old.state.disk at (length bytes)) at (length bytes) disk → FailsOn (Some action) (begun_on (Some action) old.state.disk) disk)
      → UpAfterDisk frame later took m new result
  write-ends action at bytes new (Ok done) is some writes ended failed = ends action is some new.state (writes.ok ∙ ap (λ (d : Disk). record old.state { disk = d }) ended)
  write-ends action at bytes new (Err device.Disk) is some writes ended failed =
      let f = writes.failed refl in
      fails action is some new.state.disk new.state (failed new.state.disk f.0) (ap (λ (h : List SlaveHalf). record new.state { halves = h }) f.1)
  write-ends action at bytes new (Err device.Lost) is some writes ended failed = absurd (writes.not_lost refl)
  write-ends action at bytes new (Err device.Stopped) is some writes ended failed = tt

  sync-ends : (new : Seen) (result : Result (Unit {0}) DeviceFault) → (disk_next book).0 ≡ next.Sync → SyncsDisk old result new → UpAfterDisk frame later took m new result
  sync-ends new (Ok done) is syncs = ends next.Sync is tt new.state syncs.ok
  sync-ends new (Err device.Disk) is syncs = fails next.Sync is tt old.state.disk new.state refl (syncs.failed refl)
  sync-ends new (Err device.Lost) is syncs = absurd (syncs.not_lost refl)
  sync-ends new (Err device.Stopped) is syncs = tt

  runs-as : (action : DiskNext) (result : Result (Unit {0}) DeviceFault) (new : Seen) → (disk_next book).0 ≡ action → CallsDisk action old result new → KeepsAll m old new × UpAfterDisk frame later took m new result
  runs-as (next.Write at bytes) result new is call = (
    keeps-all frame later (begin_write old.state at (length bytes)) took m old new (begun-up (next.Write at bytes) is) (WritesDisk-left old at bytes result new call.inside call.writes),
    write-ends (next.Write at bytes) at bytes new result is tt call.writes refl (λ disk failed. failed),
  )
  runs-as (next.Gate at closed) result new is call = (
    keeps-all frame later (begin_write old.state at 1) took m old new (begun-up (next.Gate at closed) is) (WritesDisk-left old at (gate_byte closed ∷ []) result new call.inside call.writes),
    write-ends (next.Gate at closed) at (gate_byte closed ∷ []) new result is tt call.writes refl (λ disk failed. failed),
  )
  runs-as next.Sync result new is call =
      (keeps-all frame book old.state took m old new up (SyncsDisk-adds_nothing old result new call), sync-ends new result is call)
  runs-as next.Idle result new is call = absurd call
  runs-as next.Stop result new is call = absurd call

  pub disk-runs : (result : Result (Unit {0}) DeviceFault) (new : Seen) → CallsDisk (disk_next book).0 old result new → KeepsAll m old new × UpAfterDisk frame (disk_next book).1 took m new result
  disk-runs result new call = runs-as (disk_next book).0 result new refl call
