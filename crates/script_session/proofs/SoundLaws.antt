-- The parts of a line that ended soundly at a desk: what their devices have followed, and that the disk is synced.
use Rattle.std.proofs.Common.{Bool, ◌≡◌, ℕ, zero, suc, ◌+◌, List, [], ◌∷◌, ◌++◌, length, slice_get, sym, ◌∙◌, ap, subst, arith}
use Rattle.std.proofs.Common.{inl, inr, Some, Result, Ok}
use Rattle.std.proofs.Common.{Err}
use Rattle.std.specs.Prelude.{OnOk}
use Rattle.std.proofs.lemmas.List.{append-nil}
use Rattle.site_core.specs.declared.fault.DeviceFault.{DeviceFault}
use Rattle.site_core.specs.Disk.{Disk}
use Rattle.site_core.specs.State.{State, Seen}
use Rattle.site_shadow.specs.Unsynced.{of_bytes}
use Rattle.site_shadow.specs.Site.{SiteValue}
use Rattle.book_model.specs.declared.next.DiskNext.{DiskNext}
use Rattle.book_model.specs.declared.next.DiskNext.TheVariants as next
use Rattle.desk_book.specs.Logs.{DiskEntry}
use Rattle.station_jobs.specs.Flushing.{DoesAction, IsFlushed}
use Rattle.station_jobs.specs.Jobs.{DoneInTurn, IsDone, IsLast, MayEnd}
use Rattle.station_threads.specs.declared.closing.Ends.{Ends}
use Rattle.station_alone.specs.Station.{Station}
use Rattle.station_files.specs.declared.faults.Fault.{Fault}
use Rattle.script_session.specs.Parts.{Sites, IsSeparate, AreEndsOfParts, AreSound, EndsSynced, IsSynced}
use Rattle.sii_edit.specs.declared.command.Command.{Command}
use Rattle.script_session.specs.declared.threads.Left.{Left}
use Rattle.script_session.specs.AtDesk.{IsServedReported, ServesFollowed}

-- ---- the disk

-- all bytes of the disk are synced
abbrev pub IsSyncedNow : Seen → Type 0
IsSyncedNow seen = seen.state.disk ≡ of_bytes seen.state.disk.bytes

abbrev synced_entry : DiskEntry
synced_entry = record { job = next.Sync; outcome = Some (Ok tt) }

-- a sync that succeeded leaves all bytes synced
by_sync : (entry : DiskEntry) (outcome : Result (Unit {0}) DeviceFault) (old new : Seen) → entry ≡ synced_entry → entry.outcome ≡ Some outcome → DoesAction entry.job outcome old new
    → IsSyncedNow new
by_sync entry outcome old new is reported does =
    let same : outcome ≡ Ok tt = (let there = ap (λ (e : DiskEntry). e.outcome) is in cc) in
    let sync : DoesAction next.Sync outcome old new = subst (λ (job : DiskNext). DoesAction job outcome old new) (ap (λ (e : DiskEntry). e.job) is) does in
    let ended = subst (λ (r : Result (Unit {0}) DeviceFault). OnOk r (new.state ≡ record old.state { disk = of_bytes old.state.disk.bytes })) same sync.ok in
    ap (λ (s : State). s.disk) ended ∙ ap of_bytes (sym (ap (λ (s : State). s.disk.bytes) ended))

done_synced : (done : List DiskEntry) (old new : Seen) (at : ℕ) → DoneInTurn DoesAction done old new → at + 1 ≡ length done → slice_get done at ≡ Some synced_entry → IsSyncedNow new
done_synced [] old new at in_turn last here = absurd (omega (arith, last))
done_synced (entry ∷ []) old new zero in_turn last here =
    let is : entry ≡ synced_entry = cc in
    let one : IsDone DoesAction entry old in_turn.0 = in_turn.1 in
    subst IsSyncedNow (sym in_turn.2) (by_sync entry one.outcome old in_turn.0 is one.reported one.does)
done_synced (entry ∷ []) old new (suc at) in_turn last here = absurd (omega (arith, last))
done_synced (entry ∷ second ∷ rest) old new zero in_turn last here = absurd (omega (arith, last))
done_synced (entry ∷ second ∷ rest) old new (suc at) in_turn last here =
    done_synced (second ∷ rest) in_turn.0 new at in_turn.2 (omega (arith, last)) here

-- the last entry of a list that goes on
last_of : (done : List DiskEntry) (entry : DiskEntry) (at : ℕ) → at + 1 ≡ length (done ++ entry ∷ []) → slice_get (done ++ entry ∷ []) at ≡ Some synced_entry → entry ≡ synced_entry
last_of [] entry zero last here = cc
last_of [] entry (suc at) last here = absurd (omega (arith, last))
last_of (first ∷ []) entry zero last here = absurd (omega (arith, last))
last_of (first ∷ second ∷ done) entry zero last here = absurd (omega (arith, last))
last_of (first ∷ done) entry (suc at) last here = last_of done entry at (omega (arith, last)) here

-- by a log that ends with a sync, all bytes are synced in the end
led_synced : (log done last : List DiskEntry) (old mid new : Seen) (at : ℕ) → log ≡ done ++ last → DoneInTurn DoesAction done old mid → MayEnd DoesAction last mid new → at + 1 ≡ length log
    → slice_get log at ≡ Some synced_entry → IsSyncedNow new
led_synced log done [] old mid new at is in_turn ends last here =
    let all : log ≡ done = is ∙ append-nil done in
    subst IsSyncedNow (sym ends)
    (done_synced done old mid at in_turn (last ∙ ap length all) (subst (λ (l : List DiskEntry). slice_get l at ≡ Some synced_entry) all here))
led_synced log done (entry ∷ []) old mid new at is in_turn ends last here =
    let one : IsLast DoesAction entry mid new = ends in
    let same : entry ≡ synced_entry =
    last_of done entry at (last ∙ ap length is) (subst (λ (l : List DiskEntry). slice_get l at ≡ Some synced_entry) is here) in
    elim one.reported [
      | inl reported ↦ by_sync entry one.outcome mid new same reported one.does
      | inr none ↦ (let there = ap (λ (e : DiskEntry). e.outcome) same in absurd cc)
    ]
led_synced log done (entry ∷ second ∷ rest) old mid new at is in_turn ends last here = absurd ends

none_led : (done last : List DiskEntry) (old mid new : Seen) → [] ≡ done ++ last → DoneInTurn DoesAction done old mid → MayEnd DoesAction last mid new → new ≡ old
none_led [] [] old mid new is in_turn ends = ends ∙ in_turn
none_led [] (entry ∷ last) old mid new is in_turn ends = absurd cc
none_led (entry ∷ done) last old mid new is in_turn ends = absurd cc

-- a disk's part that began with all bytes synced, and whose log ends so
pub synced_after : (log : List DiskEntry) (old new : Seen) → IsFlushed log old new → IsSyncedNow old → EndsSynced log → IsSyncedNow new
synced_after log old new flushed began ends = elim ends [
  | inl empty ↦ subst IsSyncedNow (sym (none_led flushed.led.done flushed.led.last old flushed.led.mid new (sym empty ∙ flushed.led.log_is) flushed.led.in_turn flushed.led.ends)) began
  | inr there ↦ led_synced log flushed.led.done flushed.led.last old flushed.led.mid new there.0 flushed.led.log_is flushed.led.in_turn flushed.led.ends there.1 there.2
]

-- the disk of a line that was taken apart, with all bytes synced
pub ends_synced : (entire : State) (sites : Sites) (ends : Ends SiteValue) → IsSeparate entire sites → AreEndsOfParts sites ends
    → IsFlushed ends.flusher.log ends.flusher.start.seen ends.flusher.site.seen → EndsSynced ends.flusher.log → IsSynced ends
ends_synced entire sites ends separate of_sites flushed synced =
    let start : ends.flusher.start.seen.state.disk ≡ of_bytes entire.disk.bytes = ap (λ (s : SiteValue). s.seen.state.disk) of_sites.flusher ∙ separate.disk in
    synced_after ends.flusher.log ends.flusher.start.seen ends.flusher.site.seen flushed (start ∙ ap of_bytes (sym (ap (λ (d : Disk). d.bytes) start))) synced

-- ---- the devices

-- what holds where a result is `Ok`
pub on_ok : {A E : Type 0} {P Q : Type 0} (result : Result A E) → (P → Q) → OnOk result P → OnOk result Q
on_ok (Ok value) step holds = step holds
on_ok (Err fault) step holds = tt

pub on_oks : {A E : Type 0} {P Q R : Type 0} (result : Result A E) → (P → Q → R) → OnOk result P → OnOk result Q → OnOk result R
on_oks (Ok value) step one other = step one other
on_oks (Err fault) step one other = tt

-- the parts that were served and ended soundly
pub served_soundly : {D T : Type 0} (follows : D → Seen → Type 0) (well : D → Type 0) (tells : D → T → Type 0) (turns : Bool) (opened : Station) (commands : List Command) (left : Left SiteValue T) → ServesFollowed follows well tells turns opened commands left → left.sound ≡ Ok tt
    → IsServedReported follows well tells turns opened left.reported left.site
served_soundly follows well tells turns opened commands left serves sound =
    let both = subst (λ (r : Result (Unit {0}) Fault). OnOk r (AreSound left.reported × IsSynced serves.parts.desk.ends)) sound serves.sound in
    record {
      served = record {
        sites = serves.parts.desk.sites;
        separate = serves.parts.desk.separate;
        ends = serves.parts.desk.ends;
        of_sites = serves.parts.desk.of_sites;
        together = serves.parts.together;
      };
      turning = serves.turning;
      count = serves.count;
      synced = both.1;
      devices = serves.reported;
      sound = both.0;
    }
