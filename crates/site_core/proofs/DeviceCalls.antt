-- What device calls add to what a power cut may leave.
use Rattle.std.proofs.Common.{◌≡◌, ◌≢◌, ◌⊎◌, ℕ, ◌≤◌, Bool, true, false, IsTrue, List, [], length, Result, Ok, Err, refl, sym, ap, subst, ◌∙◌, inl, inr}
use Rattle.std.specs.List.{AllByRecursion}
use Rattle.ecat_frame.specs.Frame.{Pdu}
use Rattle.site_core.specs.declared.fault.DeviceFault.{DeviceFault}
use Rattle.site_core.specs.declared.fault.DeviceFault.TheVariants as faults
use Rattle.site_core.specs.Disk.{Disk, written, write_begun, synced, StopImage}
use Rattle.esc_model.specs.SlaveHalf.{SlaveHalf}
use Rattle.site_core.specs.State.{EachMayLeave, State, Pair, Leaves, Stopped, Seen, last_of}
use Rattle.site_core.specs.Calls.{Calls, Reads, WritesDisk, SyncsDisk, CyclesFrame, begin_write}
use Rattle.site_core.specs.Passes.{Passes, LeavesOnly, StaysWithin, AddsNothing}
use Rattle.site_core.proofs.StopImages.{StopImage-same, StopImage-synced, StopImage-write_begun}
use Rattle.site_core.proofs.Overlays.{StopImage-written, StopImage-failed}
use Rattle.site_core.proofs.Moments.{Leaves-stopped}
use Rattle.site_core.proofs.Runs.{Passes-call, Passes-stays, last_of_all}

-- a call is stopped or isn't
pub is_stopped_or : {T : Type 0} (result : Result T DeviceFault) → (result ≡ Err faults.Stopped) ⊎ (result ≢ Err faults.Stopped)
is_stopped_or (Ok value) = inr (λ e. absurd cc)
is_stopped_or (Err faults.Disk) = inr (λ e. absurd cc)
is_stopped_or (Err faults.Lost) = inr (λ e. absurd cc)
is_stopped_or (Err faults.Stopped) = inl refl

pub is_true_or : (b : Bool) → IsTrue b ⊎ (IsTrue b → ⊥)
is_true_or true = inl refl
is_true_or false = inr (λ e. absurd cc)

-- what holds of each pair that a state leaves, holds of each pair that is left after a power cut in it
pub LeavesOnly-stopped : (Q : Pair → Type 0) (state later : State) → Stopped state later → LeavesOnly Q state → LeavesOnly Q later
LeavesOnly-stopped Q state later stopped only pair leaves = only pair (Leaves-stopped state later pair stopped leaves)

-- A call that changes nothing, or that the site stops in.
pub Reads-passes : {T : Type 0} (Q : Pair → Type 0) (old : Seen) (result : Result T DeviceFault) (new : Seen)
    → Calls old [] result new → (result ≢ Err faults.Stopped → LeavesOnly Q new.state) → LeavesOnly Q old.state → Passes (LeavesOnly Q) old new
Reads-passes Q old result new call kept only =
    Passes-call (LeavesOnly Q) old [] result new call only tt
    (elim (is_stopped_or result) [
      | inl stop ↦ LeavesOnly-stopped Q old.state new.state (call.at_stop stop) only
      | inr not ↦ kept not
    ])

same_leaves : (Q : Pair → Type 0) (old new : State) → new ≡ old → LeavesOnly Q old → LeavesOnly Q new
same_leaves Q old new same only = subst (λ (s : State). LeavesOnly Q s) (sym same) only

all_of_it : (state : State) → LeavesOnly (Leaves state) state
all_of_it state pair leaves = leaves

pub Reads-adds_nothing : {T : Type 0} (old : Seen) (result : Result T DeviceFault) (new : Seen) → Reads old result new → AddsNothing old new
Reads-adds_nothing old result new reads =
    Passes-stays (Leaves old.state) old new
    (Reads-passes (Leaves old.state) old result new reads.call
    (λ not. same_leaves (Leaves old.state) old.state new.state (reads.same not) (all_of_it old.state)) (all_of_it old.state))

pub CyclesFrame-adds_nothing : (old : Seen) (sent : List Pdu) (result : Result (Unit {0}) DeviceFault) (answer : List Pdu) (new : Seen)
    → CyclesFrame old sent result answer new → AddsNothing old new
CyclesFrame-adds_nothing old sent result answer new cycles =
    Passes-stays (Leaves old.state) old new
    (Reads-passes (Leaves old.state) old result new cycles.call
    (λ not. same_leaves (Leaves old.state) old.state new.state (cycles.same not) (all_of_it old.state)) (all_of_it old.state))

-- after a sync only the disk's bytes are left, which are an image of the disk before
pub Leaves-synced : (state : State) (pair : Pair) → Leaves (record state { disk = synced state.disk }) pair → Leaves state pair
Leaves-synced state pair leaves = record {
  disk = let is : pair.disk ≡ state.disk.bytes = StopImage-synced state.disk pair.disk leaves.disk in
      subst (λ (image : List ℕ). StopImage state.disk image) (sym is) (StopImage-same state.disk);
  words = leaves.words;
}

after_sync : (old : Seen) (result : Result (Unit {0}) DeviceFault) (new : Seen) → SyncsDisk old result new → result ≢ Err faults.Stopped → LeavesOnly (Leaves old.state) new.state
after_sync old (Ok done) new syncs not =
    let is : new.state ≡ record old.state { disk = synced old.state.disk } = syncs.ok in
    λ pair leaves. Leaves-synced old.state pair (subst (λ (s : State). Leaves s pair) is leaves)
after_sync old (Err faults.Disk) new syncs not = same_leaves (Leaves old.state) old.state new.state (syncs.failed refl) (all_of_it old.state)
after_sync old (Err faults.Lost) new syncs not = absurd (syncs.not_lost refl)
after_sync old (Err faults.Stopped) new syncs not = absurd (not refl)

pub SyncsDisk-adds_nothing : (old : Seen) (result : Result (Unit {0}) DeviceFault) (new : Seen) → SyncsDisk old result new → AddsNothing old new
SyncsDisk-adds_nothing old result new syncs =
    Passes-stays (Leaves old.state) old new
    (Reads-passes (Leaves old.state) old result new syncs.call (after_sync old result new syncs) (all_of_it old.state))

-- what was left before is left by a write that begins
pub Leaves-begun : (state : State) (at count : ℕ) (pair : Pair) → Leaves state pair → Leaves (begin_write state at count) pair
Leaves-begun state at count pair leaves = record { disk = StopImage-write_begun state.disk at count pair.disk leaves.disk; words = leaves.words }

after_write : (old : Seen) (at : ℕ) (bytes : List ℕ) (result : Result (Unit {0}) DeviceFault) (new : Seen) → at ≤ length old.state.disk.bytes
    → WritesDisk old at bytes result new → result ≢ Err faults.Stopped → LeavesOnly (Leaves (begin_write old.state at (length bytes))) new.state
after_write old at bytes (Ok done) new within writes not =
    let is : new.state ≡ record old.state { disk = written (write_begun old.state.disk at (length bytes)) at bytes } = writes.ok in
    λ pair leaves.
    let there : Leaves (record old.state { disk = written (write_begun old.state.disk at (length bytes)) at bytes }) pair = subst (λ (s : State). Leaves s pair) is leaves in
    record { disk = StopImage-written old.state.disk at bytes pair.disk within there.disk; words = there.words }
after_write old at bytes (Err faults.Disk) new within writes not =
    let failed = writes.failed refl in
    λ pair leaves. record {
      disk = StopImage-failed old.state.disk new.state.disk at (length bytes) pair.disk failed.0 leaves.disk;
      words = subst (λ (hs : List SlaveHalf). EachMayLeave hs pair.words) failed.1 leaves.words;
    }
after_write old at bytes (Err faults.Lost) new within writes not = absurd (writes.not_lost refl)
after_write old at bytes (Err faults.Stopped) new within writes not = absurd (not refl)

-- At every point of a write, a power cut leaves only what one in its middle leaves.
pub WritesDisk-passes : (old : Seen) (at : ℕ) (bytes : List ℕ) (result : Result (Unit {0}) DeviceFault) (new : Seen) → at ≤ length old.state.disk.bytes
    → WritesDisk old at bytes result new → Passes (LeavesOnly (Leaves (begin_write old.state at (length bytes)))) old new
WritesDisk-passes old at bytes result new within writes =
    Passes-call P old writes.middle result new writes.call before all
    (elim (is_stopped_or result) [
      | inl stop ↦ LeavesOnly-stopped Q (last_of old.state writes.middle) new.state (writes.call.at_stop stop) (last_of_all P old.state writes.middle before all)
      | inr not ↦ after_write old at bytes result new within writes not
    ])
  where
    Q : Pair → Type 0
    Q = Leaves (begin_write old.state at (length bytes))

    P : State → Type 0
    P = LeavesOnly Q

    before : P old.state
    before pair leaves = Leaves-begun old.state at (length bytes) pair leaves

    all : AllByRecursion P writes.middle
    all = elim (is_true_or old.is_stopped) [
      | inl stopped ↦ subst (λ (states : List State). AllByRecursion P states) (sym (writes.call.stays_stopped stopped).1) tt
      | inr going ↦ subst (λ (states : List State). AllByRecursion P states) (sym (writes.begun going)) (all_of_it (begin_write old.state at (length bytes)), tt)
    ]

pub WritesDisk-left : (old : Seen) (at : ℕ) (bytes : List ℕ) (result : Result (Unit {0}) DeviceFault) (new : Seen) → at ≤ length old.state.disk.bytes
    → WritesDisk old at bytes result new → StaysWithin (Leaves (begin_write old.state at (length bytes))) old new
WritesDisk-left old at bytes result new within writes =
    Passes-stays (Leaves (begin_write old.state at (length bytes))) old new (WritesDisk-passes old at bytes result new within writes)

-- after a sync that is Ok the disk's bytes are the only image
pub SyncsDisk-bytes : (old new : Seen) (image : List ℕ) → SyncsDisk old (Ok tt) new → StopImage new.state.disk image → image ≡ new.state.disk.bytes
SyncsDisk-bytes old new image syncs stop =
    let is : new.state ≡ record old.state { disk = synced old.state.disk } = syncs.ok in
    let disk_is : new.state.disk ≡ synced old.state.disk = ap (λ (s : State). s.disk) is in
    StopImage-synced old.state.disk image (subst (λ (d : Disk). StopImage d image) disk_is stop) ∙ sym (ap (λ (d : Disk). d.bytes) disk_is)
