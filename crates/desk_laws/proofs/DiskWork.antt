-- What the jobs of a log have done to the disk.
use Rattle.std.proofs.Common.{◌≡◌, ◌≢◌, ◌⊎◌, ◌∙◌, inl, inr, ℕ, ◌∷◌, ◌++◌, List, [], refl, sym, ap, subst, append_assoc, Some, None, Result, Ok, Err}
use Rattle.site_core.specs.declared.fault.DeviceFault.{DeviceFault}
use Rattle.site_core.specs.declared.fault.DeviceFault.TheVariants as device
use Rattle.site_core.specs.Disk.{Disk, StopImage}
use Rattle.site_core.specs.State.{State, Pair, Seen, Leaves}
use Rattle.site_core.specs.Passes.{LeavesOnly}
use Rattle.site_core.proofs.DeviceCalls.{WritesDisk-left, SyncsDisk-adds_nothing}
use Rattle.book_model.specs.declared.next.DiskNext.{DiskNext}
use Rattle.book_model.specs.declared.next.DiskNext.TheVariants as next
use Rattle.book_model.specs.Events.{begun_on, ended_on, FailsOn}
use Rattle.book_model.specs.Opening.{words_in}
use Rattle.world_law.proofs.StandsLaws.{as-read}
use Rattle.station_jobs.specs.Jobs.{DoneInTurn, MayEnd}
use Rattle.station_jobs.specs.Left.{CameBackInTurn, LeftInProgress}
use Rattle.station_jobs.specs.Flushing.{DoesAction, ActionReturns, LeftInAction}
use Rattle.station_jobs.proofs.ActionLaws.{actions-came-back, action-goes}
use Rattle.desk_book.specs.declared.call.Call.{Call}
use Rattle.desk_book.specs.Logs.{DiskEntry, disk_log}
use Rattle.desk_laws.specs.Joined.{MayBeOut, DiskGoes}

-- a power cut leaves nothing of the later disk that it couldn't leave of the earlier one
abbrev pub LeavesLess : Disk → Disk → Type 0
LeavesLess disk later = (image : List ℕ) → StopImage later image → StopImage disk image

abbrev pub DiskReturnsBy : DiskNext → Result (Unit {0}) DeviceFault → Disk → Disk → Type 0
DiskReturnsBy action (Ok done) old new = new ≡ ended_on (Some action) (begun_on (Some action) old)
DiskReturnsBy action (Err fault) old new = FailsOn (Some action) (begun_on (Some action) old) new

-- The action returned so, if an outcome was reported and the site didn't stop. Either way a power cut leaves nothing that it couldn't
-- leave during the action.
pub record DiskSteps (entry : DiskEntry) (old new : Disk) : Type 0 where
  pub returns : (outcome : Result (Unit {0}) DeviceFault) → entry.outcome ≡ Some outcome → outcome ≢ Err device.Stopped → DiskReturnsBy entry.job outcome old new
  pub leaves : LeavesLess (begun_on (Some entry.job) old) new

-- Each action did so, one after another, and a power cut leaves no more of the disk as it is now.
abbrev pub DiskLedBy : List DiskEntry → Disk → Disk → Type 0
DiskLedBy [] old new = LeavesLess old new
DiskLedBy (entry ∷ log) old new = (mid : Disk) × DiskSteps entry old mid × DiskLedBy log mid new

-- ---- one action

less-of : (disk : Disk) (old new : State) → LeavesOnly (Leaves (record old { disk = disk })) new → LeavesLess disk new.disk
less-of disk old new only image stop =
    let pair : Pair = record { disk = image; words = words_in new.halves } in
    let left = only pair (record { disk = stop; words = as-read new.halves }) in
    left.disk

action-left : (action : DiskNext) (result : Result (Unit {0}) DeviceFault) (old new : Seen) → DoesAction action result old new → LeavesLess (begun_on (Some action) old.state.disk) new.state.disk
action-left (next.Write at bytes) result old new does =
    let stays = WritesDisk-left old at bytes result new does.inside does.writes in less-of _ old.state new.state stays.passes.now
action-left (next.Gate at closed) result old new does =
    let stays = WritesDisk-left old at _ result new does.inside does.writes in less-of _ old.state new.state stays.passes.now
action-left next.Sync result old new does = let stays = SyncsDisk-adds_nothing old result new does in less-of old.state.disk old.state new.state stays.passes.now
action-left next.Idle result old new does = absurd does
action-left next.Stop result old new does = absurd does

disk-returns : (action : DiskNext) (outcome : Result (Unit {0}) DeviceFault) (old new : State) → ActionReturns action outcome old new → DiskReturnsBy action outcome old.disk new.disk
disk-returns action (Ok done) old new returns = ap (λ (s : State). s.disk) returns
disk-returns action (Err fault) old new returns = subst (λ (s : State). FailsOn (Some action) (begun_on (Some action) old.disk) s.disk) (sym returns.2) returns.1

action-back : (entry : DiskEntry) (outcome : Result (Unit {0}) DeviceFault) (old new : Seen) → entry.outcome ≡ Some outcome → DoesAction entry.job outcome old new → outcome ≢ Err device.Stopped
    → DiskReturnsBy entry.job outcome old.state.disk new.state.disk
action-back entry outcome old new reported does going =
    let turn : DoneInTurn DoesAction (entry ∷ []) old new = (new, record { outcome = outcome; reported = reported; does = does; going = action-goes entry.job outcome old new does going }, refl) in
    let back : CameBackInTurn ActionReturns (entry ∷ []) old.state new.state = actions-came-back (entry ∷ []) old new turn in
    let one = back.1 in
    let same : one.outcome ≡ outcome = (let e : Some one.outcome ≡ Some outcome = sym one.reported ∙ reported in cc) in
    disk-returns entry.job outcome old.state new.state
    (subst (λ (s : State). ActionReturns entry.job outcome old.state s) (sym back.2) (subst (λ (o : Result (Unit {0}) DeviceFault). ActionReturns entry.job o old.state back.0) same one.returns))

action-steps : (entry : DiskEntry) (outcome : Result (Unit {0}) DeviceFault) (old new : Seen) → (entry.outcome ≡ Some outcome) ⊎ (entry.outcome ≡ None) → DoesAction entry.job outcome old new → DiskSteps entry old.state.disk new.state.disk
action-steps entry outcome old new (inl reported) does = record {
  returns = λ said is going.
      let same : outcome ≡ said = (let e : Some outcome ≡ Some said = sym reported ∙ is in cc) in
      action-back entry said old new is (subst (λ (o : Result (Unit {0}) DeviceFault). DoesAction entry.job o old new) same does) going;
  leaves = action-left entry.job outcome old new does;
}
action-steps entry outcome old new (inr none) does = record {
  returns = λ said is going. absurd (let no : None ≡ Some said = sym none ∙ is in cc);
  leaves = action-left entry.job outcome old new does;
}

-- ---- one after another

led-turn : (log rest : List DiskEntry) (old mid : Seen) (new : Disk) → DoneInTurn DoesAction log old mid → DiskLedBy rest mid.state.disk new → DiskLedBy (log ++ rest) old.state.disk new
led-turn [] rest old mid new same led = subst (λ (s : Seen). DiskLedBy rest s.state.disk new) same led
led-turn (entry ∷ log) rest old mid new turn led =
    let one = turn.1 in
    (turn.0.state.disk, action-steps entry one.outcome old turn.0 (inl one.reported) one.does, led-turn log rest turn.0 mid new turn.2 led)

led-last : (last rest : List DiskEntry) (mid end : Seen) (new : Disk) → MayEnd DoesAction last mid end → DiskLedBy rest end.state.disk new → DiskLedBy (last ++ rest) mid.state.disk new
led-last [] rest mid end new same led = subst (λ (s : Seen). DiskLedBy rest s.state.disk new) same led
led-last (entry ∷ []) rest mid end new ends led = (end.state.disk, action-steps entry ends.outcome mid end ends.reported ends.does, led)
led-last (entry ∷ next ∷ last) rest mid end new ends led = absurd ends

-- the last one may be in progress
led-out : (out : List DiskEntry) (mid now : State) → MayBeOut out → LeavesOnly (LeftInProgress LeftInAction out mid) now → DiskLedBy out mid.disk now.disk
led-out [] mid now may only = less-of mid.disk mid now only
led-out (entry ∷ []) mid now may only =
    (now.disk, record { returns = λ said is going. absurd (let no : None ≡ Some said = sym may ∙ is in cc); leaves = less-of (begun_on (Some entry.job) mid.disk) mid now only }, λ image stop. stop)
led-out (entry ∷ next ∷ out) mid now may only = absurd may

pub led-disk : (calls : List Call) (old new : Disk) → DiskGoes calls old new → DiskLedBy (disk_log calls) old new
led-disk calls old new goes =
    let led = goes.flushed.led in
    let all : disk_log calls ≡ led.done ++ (led.last ++ goes.out) = goes.log_is ∙ ap (λ (l : List DiskEntry). l ++ goes.out) led.log_is ∙ append_assoc led.done led.last goes.out in
    let path : DiskLedBy (led.done ++ (led.last ++ goes.out)) goes.start.state.disk goes.now.disk =
    led-turn led.done (led.last ++ goes.out) goes.start led.mid goes.now.disk led.in_turn
    (led-last led.last goes.out led.mid goes.mid goes.now.disk led.ends (led-out goes.out goes.mid.state goes.now goes.may_be_out goes.stands)) in
    subst (DiskLedBy (disk_log calls) old) goes.is (subst (λ (d : Disk). DiskLedBy (disk_log calls) d goes.now.disk) goes.began (subst (λ (l : List DiskEntry). DiskLedBy l goes.start.state.disk goes.now.disk) (sym all) path))
