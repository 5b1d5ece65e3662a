-- One action on the disk: its device call and its events.
use Rattle.std.proofs.Common.{◌≡◌, ◌≤◌, ℕ, List, [], ◌∷◌, length, Some, Result, Ok, Err, refl, ap, ◌∙◌, arith}
use Rattle.std.specs.Prelude.{IsTrue}
use Rattle.esc_model.specs.SlaveHalf.{SlaveHalf}
use Rattle.site_core.specs.declared.fault.DeviceFault.{DeviceFault}
use Rattle.site_core.specs.declared.fault.DeviceFault.TheVariants as device
use Rattle.site_core.specs.Disk.{Disk, WriteFailed, write_begun, written}
use Rattle.site_core.specs.State.{State, Seen}
use Rattle.site_core.specs.Calls.{WritesDisk, SyncsDisk}
use Rattle.site_core.specs.Passes.{StaysWithin}
use Rattle.site_core.proofs.Overlays.{length-overlaid}
use Rattle.site_core.proofs.DeviceCalls.{WritesDisk-left, SyncsDisk-adds_nothing}
use Rattle.book_model.specs.declared.next.DiskNext.{DiskNext}
use Rattle.book_model.specs.declared.next.DiskNext.TheVariants as next
use Rattle.book_model.specs.Events.{gate_byte, begun_on, ended_on, FailsOn}
use Rattle.site_journal.specs.Action.{BeginsInside, DoesAction as DoesJournal}
use Rattle.station_jobs.specs.declared.log.Assignment.{Assignment}
use Rattle.station_jobs.specs.Jobs.{DoneInTurn, Led}
use Rattle.station_jobs.specs.Left.{CameBackInTurn}
use Rattle.station_jobs.specs.Flushing.{CanBegin, DoesAction, ActionReturns, LeftInAction, IsFlushed}
use Rattle.station_jobs.proofs.LeftLaws as left

action-stays : (action : DiskNext) (result : Result (Unit {0}) DeviceFault) (old new : Seen) → DoesAction action result old new → StaysWithin (LeftInAction action old.state) old new
action-stays (next.Write at bytes) result old new does = WritesDisk-left old at bytes result new does.inside does.writes
action-stays (next.Gate at closed) result old new does = WritesDisk-left old at _ result new does.inside does.writes
action-stays next.Sync result old new does = SyncsDisk-adds_nothing old result new does
action-stays next.Idle result old new does = absurd does
action-stays next.Stop result old new does = absurd does

-- only the disk of the state may differ
with-disk : (old new : State) → new.halves ≡ old.halves → new ≡ record old { disk = new.disk }
with-disk old new same = ap (λ (h : List SlaveHalf). record new { halves = h }) same

write-returns : (at : ℕ) (bytes : List ℕ) (result : Result (Unit {0}) DeviceFault) (old new : Seen) (action : DiskNext) → WritesDisk old at bytes result new → (IsTrue new.is_stopped → ⊥)
    → written (write_begun old.state.disk at (length bytes)) at bytes ≡ ended_on (Some action) (begun_on (Some action) old.state.disk)
    → ((disk : Disk) → WriteFailed (write_begun old.state.disk at (length bytes)) at (length bytes) disk → FailsOn (Some action) (begun_on (Some action) old.state.disk) disk)
    → ActionReturns action result old.state new.state
write-returns at bytes (Ok done) old new action writes going ended failed = writes.ok ∙ ap (λ (d : Disk). record old.state { disk = d }) ended
write-returns at bytes (Err device.Disk) old new action writes going ended failed =
    let f = writes.failed refl in (new.state.disk, failed new.state.disk f.0, with-disk old.state new.state f.1)
write-returns at bytes (Err device.Lost) old new action writes going ended failed = absurd (writes.not_lost refl)
write-returns at bytes (Err device.Stopped) old new action writes going ended failed = absurd (going (writes.call.stopped.1 refl))

sync-returns : (result : Result (Unit {0}) DeviceFault) (old new : Seen) → SyncsDisk old result new → (IsTrue new.is_stopped → ⊥) → ActionReturns next.Sync result old.state new.state
sync-returns (Ok done) old new syncs going = syncs.ok
sync-returns (Err device.Disk) old new syncs going = (old.state.disk, refl, syncs.failed refl)
sync-returns (Err device.Lost) old new syncs going = absurd (syncs.not_lost refl)
sync-returns (Err device.Stopped) old new syncs going = absurd (going (syncs.call.stopped.1 refl))

action-returns : (action : DiskNext) (result : Result (Unit {0}) DeviceFault) (old new : Seen) → DoesAction action result old new → (IsTrue new.is_stopped → ⊥) → ActionReturns action result old.state new.state
action-returns (next.Write at bytes) result old new does going = write-returns at bytes result old new (next.Write at bytes) does.writes going refl (λ disk f. f)
action-returns (next.Gate at closed) result old new does going = write-returns at _ result old new (next.Gate at closed) does.writes going refl (λ disk f. f)
action-returns next.Sync result old new does going = sync-returns result old new does going
action-returns next.Idle result old new does going = absurd does
action-returns next.Stop result old new does going = absurd does

-- each action began and returned
pub actions-came-back : (log : List (Assignment DiskNext (Result (Unit {0}) DeviceFault))) (old new : Seen) → DoneInTurn DoesAction log old new → CameBackInTurn ActionReturns log old.state new.state
actions-came-back log old new turn = left.came-back DoesAction ActionReturns LeftInAction action-stays action-returns log old new turn

-- the actions of a log
pub flushed : (log : List (Assignment DiskNext (Result (Unit {0}) DeviceFault))) (old new : Seen) → Led DoesAction log old new → IsFlushed log old new
flushed log old new led = left.served DoesAction ActionReturns LeftInAction action-stays action-returns log old new led

-- ---- after an action

-- the site has stopped only if the outcome says so
pub action-goes : (action : DiskNext) (result : Result (Unit {0}) DeviceFault) (old new : Seen) → DoesAction action result old new → (result ≡ Err device.Stopped → ⊥) → IsTrue new.is_stopped → ⊥
action-goes (next.Write at bytes) result old new does not stopped = let w = does.writes in not (w.call.stopped.0 stopped)
action-goes (next.Gate at closed) result old new does not stopped = let w = does.writes in not (w.call.stopped.0 stopped)
action-goes next.Sync result old new does not stopped = not (does.call.stopped.0 stopped)
action-goes next.Idle result old new does not stopped = absurd does
action-goes next.Stop result old new does not stopped = absurd does

-- ended or failed, the disk is no shorter
ended-longer : (action : DiskNext) (disk : Disk) → CanBegin action disk → length disk.bytes ≤ length (ended_on (Some action) (begun_on (Some action) disk)).bytes
ended-longer (next.Write at bytes) disk can = length-overlaid disk.bytes bytes at can
ended-longer (next.Gate at closed) disk can = length-overlaid disk.bytes (gate_byte closed ∷ []) at can
ended-longer next.Sync disk can = omega arith
ended-longer next.Idle disk can = omega arith
ended-longer next.Stop disk can = omega arith

failed-longer : (action : DiskNext) (disk later : Disk) → FailsOn (Some action) (begun_on (Some action) disk) later → length disk.bytes ≤ length later.bytes
failed-longer (next.Write at bytes) disk later fails = fails.no_shorter
failed-longer (next.Gate at closed) disk later fails = fails.no_shorter
failed-longer next.Sync disk later same = omega (arith, ap (λ (d : Disk). length d.bytes) same)
failed-longer next.Idle disk later same = omega (arith, ap (λ (d : Disk). length d.bytes) same)
failed-longer next.Stop disk later same = omega (arith, ap (λ (d : Disk). length d.bytes) same)

returned-longer : (action : DiskNext) (result : Result (Unit {0}) DeviceFault) (old new : State) → CanBegin action old.disk → ActionReturns action result old new → length old.disk.bytes ≤ length new.disk.bytes
returned-longer action (Ok done) old new can is = omega (arith, ended-longer action old.disk can, ap (λ (s : State). length s.disk.bytes) is)
returned-longer action (Err fault) old new can returns = omega (arith, failed-longer action old.disk returns.0 returns.1, ap (λ (s : State). length s.disk.bytes) returns.2)

began : (action : DiskNext) (result : Result (Unit {0}) DeviceFault) (old new : Seen) → DoesAction action result old new → CanBegin action old.state.disk
began (next.Write at bytes) result old new does = does.inside
began (next.Gate at closed) result old new does = does.inside
began next.Sync result old new does = tt
began next.Idle result old new does = does
began next.Stop result old new does = does

no-shorter : (action : DiskNext) (result : Result (Unit {0}) DeviceFault) (old new : Seen) → DoesAction action result old new → (result ≡ Err device.Stopped → ⊥) → length old.state.disk.bytes ≤ length new.state.disk.bytes
no-shorter action result old new does not =
    returned-longer action result old.state new.state (began action result old new does) (action-returns action result old new does (action-goes action result old new does not))

-- and what could begin can still begin
pub still-begins : (action next : DiskNext) (result : Result (Unit {0}) DeviceFault) (old new : Seen) → DoesAction action result old new → (result ≡ Err device.Stopped → ⊥) → CanBegin next old.state.disk → CanBegin next new.state.disk
still-begins action (next.Write at bytes) result old new does not can = let long = no-shorter action result old new does not in omega (arith, can, long)
still-begins action (next.Gate at closed) result old new does not can = let long = no-shorter action result old new does not in omega (arith, can, long)
still-begins action next.Sync result old new does not can = tt
still-begins action next.Idle result old new does not can = can
still-begins action next.Stop result old new does not can = can

-- what a call of the disk did, where it could begin
pub does-action : (action : DiskNext) (result : Result (Unit {0}) DeviceFault) (old new : Seen) → CanBegin action old.state.disk → DoesJournal action old result new → DoesAction action result old new
does-action (next.Write at bytes) result old new can does = record { inside = can; writes = does }
does-action (next.Gate at closed) result old new can does = record { inside = can; writes = does }
does-action next.Sync result old new can does = does
does-action next.Idle result old new can does = absurd can
does-action next.Stop result old new can does = absurd can

pub begins-inside : (action : DiskNext) (old : Seen) → CanBegin action old.state.disk → BeginsInside action old
begins-inside (next.Write at bytes) old can = can
begins-inside (next.Gate at closed) old can = can
begins-inside next.Sync old can = tt
begins-inside next.Idle old can = tt
begins-inside next.Stop old can = tt
