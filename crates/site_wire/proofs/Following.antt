-- A device on a wire follows its site through each call.
use Rattle.std.proofs.Common.{◌≡◌, ◌≢◌, not, ◌||◌, ◌↔◌, ◌⊎◌, ℕ, ◌≤◌, Bool, true, false, List, [], length, Option, Some, None, Result, Ok, Err}
use Rattle.std.proofs.Common.{slice_get, IsTrue, IsErrOf, refl, sym, ap, subst, ◌∙◌, inl, inr}
use Rattle.std.proofs.lemmas.List.Elements.{All-append, All-nil}
use Rattle.ecat_frame.specs.Frame.{Pdu}
use Rattle.esc_model.specs.SlaveHalf.{SlaveHalf}
use Rattle.site_core.specs.declared.fault.DeviceFault.{DeviceFault}
use Rattle.site_core.specs.declared.fault.DeviceFault.TheVariants as faults
use Rattle.site_core.specs.State.{State, Seen}
use Rattle.site_core.specs.Calls.{Calls, WritesDisk, SyncsDisk}
use Rattle.site_shadow.specs.Following.{Keeps, AskKeeps, WriteKeeps, SyncKeeps, ExchangeKeeps, RestKeeps, TakenKeeps}
use Rattle.site_shadow.specs.declared.pattern.Pattern.{Pattern}
use Rattle.site_shadow.proofs.Asked.{ask_keeps, exchange_keeps, taken_keeps}
use Rattle.site_shadow.proofs.Keeping.{GoesOn-by}
use Rattle.site_shadow.specs.declared.device.Passing.{Passing}
use Rattle.site_shadow.specs.declared.device.Passing.TheVariants.{Passes}
use Rattle.site_shadow.specs.declared.device.Resting.{Resting}
use Rattle.site_shadow.specs.declared.device.Resting.TheVariants as resting
use Rattle.site_shadow.specs.declared.lending.LinePart.{LinePart}
use Rattle.site_file.specs.declared.files.FileDevice.{FileDevice}
use Rattle.site_file.specs.declared.asking.Call.TheVariants.{Writes as writes, Syncs as syncs}
use Rattle.site_file.specs.Asking.{HasLog}
use Rattle.site_file.specs.Device.{CallsJournal, AsksLength, ReadsJournal}
use Rattle.site_file.specs.Following as files
use Rattle.site_wire.specs.Journal as journal
use Rattle.site_wire.specs.Journal.{JournalStep}
use Rattle.site_wire.specs.Following as wire
use Rattle.site_wire.specs.Following.{SendsNothing, Carries, CarriesFrame, KeepsHalves, Step, HasFollowed, Refuses, WireFollows, one_step, stays_so}
use Rattle.site_wire.specs.declared.device.WireDevice.{WireDevice}
use Rattle.site_wire.specs.declared.sending.Exchange.{Exchange}
use Rattle.site_wire.specs.Sent.{exchanges}
use Rattle.site_wire.specs.Parts.{AreFor, IsForPart, SendsAsPart}
use Rattle.site_wire.proofs.Journal.{GoesOn-same, same_call, same_length, same_read, call_sound, length_sound, read_sound}
use Rattle.site_wire.proofs.Sends.{nothing_sent}

-- where the state stays unless the site stops, so do the halves
same_halves : (old new : Seen) (given : Result (Unit {0}) DeviceFault) → Calls old [] given new → (given ≢ Err faults.Stopped → new.state ≡ old.state)
    → KeepsHalves old new
same_halves old new given call same going =
    ap (λ (s : State). s.halves)
    (same (λ e. going (call.stopped.1 (subst (λ (r : Result (Unit {0}) DeviceFault). IsErrOf r faults.Stopped) (sym e) refl))))

module _ {L F C : Type 0} where
  -- one step more
  one_more : (old new : Seen) (before after : WireDevice L F C) → Step old before new after → SendsNothing before after
      → (IsTrue before.journal.has_failed → after.journal ≡ before.journal) → HasFollowed before old ⊎ Refuses before → HasFollowed after new ⊎ Refuses after
  one_more old new before after step nothing same (inl followed) = inl (one_step old new before after step followed)
  one_more old new before after step nothing same (inr refuses) = inr (record {
    unasked = subst (λ (j : FileDevice F). HasLog j.asking.calls []) (sym (same refuses.failed)) refuses.unasked;
    unsent = nothing.sent ∙ refuses.unsent;
    failed = subst (λ (j : FileDevice F). IsTrue j.has_failed) (sym (same refuses.failed)) refuses.failed;
    over = stays_over after.is_over refl;
  })
    where
      stays_over : (b : Bool) → after.is_over ≡ b → IsTrue after.is_over
      stays_over true is = is
      stays_over false is = absurd (let e : true ≡ false = sym refuses.over ∙ nothing.over is in cc)

  -- a device whose journal was asked nothing more
  still_sound : (before after : WireDevice L F C) → after.journal ≡ before.journal → (after.is_over ≡ false → before.is_over ≡ false)
      → (before.is_over ≡ false → before.journal.has_failed ≡ false) → after.is_over ≡ false → after.journal.has_failed ≡ false
  still_sound before after same over was going = ap (λ (j : FileDevice F). j.has_failed) same ∙ was (over going)

  -- one that has sent nothing more, and is of the same part
  still_own : (before after : WireDevice L F C) → after.journal.asking.part ≡ before.journal.asking.part → SendsNothing before after
      → (before.is_over ≡ false → AreFor before.journal.asking.part (exchanges before.sender.log.all)) → after.is_over ≡ false
      → AreFor after.journal.asking.part (exchanges after.sender.log.all)
  still_own before after part nothing own going =
      subst (λ (p : Option LinePart). AreFor p (exchanges after.sender.log.all)) (sym part)
      (subst (λ (sent : List Exchange). AreFor before.journal.asking.part (exchanges sent)) (sym nothing.sent) (own (nothing.over going)))

  -- calls in which it asks and sends nothing more
  pub nothing_keeps : (before after : WireDevice L F C) → after.journal ≡ before.journal → SendsNothing before after → Keeps WireFollows before after
  nothing_keeps before after same nothing seen so_far = record {
    follows = one_more seen seen before after (wire.idles (GoesOn-same seen) (λ going. refl) same nothing) nothing (λ failed. same) so_far.follows;
    sound = still_sound before after same nothing.over so_far.sound;
    own = still_own before after (ap (λ (j : FileDevice F). j.asking.part) same) nothing so_far.own;
  }

  pub nothing_asks : (before after : WireDevice L F C) (result : Passing) → after.journal ≡ before.journal → SendsNothing before after
      → AskKeeps WireFollows before result after
  nothing_asks before after result same nothing = ask_keeps WireFollows stays_so before after (nothing_keeps before after same nothing) result

  pub nothing_passes : (before after : WireDevice L F C) → after.journal ≡ before.journal → SendsNothing before after
      → ExchangeKeeps WireFollows before Passes after
  nothing_passes before after same nothing = exchange_keeps WireFollows stays_so before after (nothing_keeps before after same nothing) Passes

  pub nothing_stops : (before after : WireDevice L F C) (pattern : Pattern) → after.journal ≡ before.journal → SendsNothing before after
      → TakenKeeps WireFollows before (Some pattern) after
  nothing_stops before after pattern same nothing =
      taken_keeps WireFollows stays_so before after (nothing_keeps before after same nothing) (Some pattern)

  -- CALLS ON THE DISK

  module _ (before after : WireDevice L F C) (result : Passing) (part : after.journal.asking.part ≡ before.journal.asking.part) (nothing : SendsNothing before after)
      (well : after.is_over ≡ false → result ≡ Passes) where
    -- the journal is asked
    asked : (old new : Seen) → old.is_stopped ≡ false → JournalStep old before.journal new after.journal → KeepsHalves old new
        → (IsTrue before.journal.has_failed → after.journal ≡ before.journal) → (result ≡ Passes → after.journal.has_failed ≡ false)
        → WireFollows before old → WireFollows after new
    asked old new running step halves same sound so_far = record {
      follows = one_more old new before after (wire.asks running step halves nothing) nothing same so_far.follows;
      sound = λ going. sound (well going);
      own = still_own before after part nothing so_far.own;
    }

    pub length_asks : AsksLength before.journal result after.journal → AskKeeps WireFollows before result after
    length_asks asks old new given running call same reported =
        asked old new running (journal.goes_on (GoesOn-by old new [] given call same) (files.asks_length result asks)) (same_halves old new given call same)
        (λ failed. same_length before.journal after.journal result failed asks) (length_sound before.journal after.journal result asks)

    pub read_asks : ReadsJournal before.journal result after.journal → AskKeeps WireFollows before result after
    read_asks asks old new given running call same reported =
        asked old new running (journal.goes_on (GoesOn-by old new [] given call same) (files.reads_bytes result asks)) (same_halves old new given call same)
        (λ failed. same_read before.journal after.journal result failed asks) (read_sound before.journal after.journal result asks)

    pub write_keeps : (at : ℕ) (bytes : List ℕ) → CallsJournal (writes at bytes) before.journal result after.journal
        → WriteKeeps WireFollows at bytes before result after
    write_keeps at bytes calls old new given running inside wrote reported =
        asked old new running (journal.write at bytes result given running inside wrote reported calls) (halves given wrote)
        (λ failed. same_call (writes at bytes) before.journal after.journal result failed calls)
        (call_sound (writes at bytes) before.journal after.journal result calls)
      where
        halves : (given : Result (Unit {0}) DeviceFault) → WritesDisk old at bytes given new → KeepsHalves old new
        halves (Ok done) wrote going = ap (λ (s : State). s.halves) wrote.ok
        halves (Err faults.Disk) wrote going = (wrote.failed refl).1
        halves (Err faults.Lost) wrote going = absurd (wrote.not_lost refl)
        halves (Err faults.Stopped) wrote going = absurd (going (wrote.call.stopped.1 refl))

    pub sync_keeps : CallsJournal syncs before.journal result after.journal → SyncKeeps WireFollows before result after
    sync_keeps calls old new given running syncs_it reported =
        asked old new running (journal.sync result given running syncs_it reported calls) (halves given syncs_it)
        (λ failed. same_call syncs before.journal after.journal result failed calls) (call_sound syncs before.journal after.journal result calls)
      where
        halves : (given : Result (Unit {0}) DeviceFault) → SyncsDisk old given new → KeepsHalves old new
        halves (Ok done) syncs_it going = ap (λ (s : State). s.halves) syncs_it.ok
        halves (Err faults.Disk) syncs_it going = ap (λ (s : State). s.halves) (syncs_it.failed refl)
        halves (Err faults.Lost) syncs_it going = absurd (syncs_it.not_lost refl)
        halves (Err faults.Stopped) syncs_it going = absurd (going (syncs_it.call.stopped.1 refl))

-- THE BEGINNING

pub begins : {L F C : Type 0} (device : WireDevice L F C) (was_over had_failed is_unsent is_new : Bool) (seen : Seen) → device.sender.log.all ≡ []
    → HasLog device.journal.asking.calls [] → device.journal.has_failed ≡ (had_failed || not is_new)
    → device.is_over ≡ ((was_over || device.journal.has_failed) || not is_unsent) → (IsTrue is_new ↔ seen.past ≡ []) → WireFollows device seen
begins device was_over had_failed is_unsent is_new seen unsent unasked failed over reported = record {
  follows = by is_new failed reported;
  sound = sound;
  own = λ going.
      subst (λ (sent : List Exchange). AreFor device.journal.asking.part (exchanges sent)) (sym unsent)
      (subst (AreFor device.journal.asking.part) (sym nothing_sent) (All-nil (IsForPart device.journal.asking.part)));
}
  where
    either : (was is : Bool) → IsTrue is → (was || is) ≡ true
    either true is holds = refl
    either false is holds = holds

    or_else : (is other : Bool) → IsTrue is → (is || other) ≡ true
    or_else true other holds = refl
    or_else false other holds = absurd (let e : true ≡ false = sym holds in cc)

    by : (is : Bool) → device.journal.has_failed ≡ (had_failed || not is) → (IsTrue is ↔ seen.past ≡ []) → HasFollowed device seen ⊎ Refuses device
    by true fails so = inl (record { first = seen; new = so.0 refl; began = device; unasked = unasked; unsent = unsent; run = wire.none })
    by false fails so =
        let failed_now : IsTrue device.journal.has_failed = fails ∙ either had_failed true refl in
        inr (record {
          unasked = unasked;
          unsent = unsent;
          failed = failed_now;
          over = over ∙ or_else (was_over || device.journal.has_failed) (not is_unsent) (either was_over device.journal.has_failed failed_now);
        })

    neither : (was is : Bool) → (was || is) ≡ false → is ≡ false
    neither true is e = absurd cc
    neither false is e = e

    front : (was is : Bool) → (was || is) ≡ false → was ≡ false
    front true is e = absurd cc
    front false is e = refl

    sound : device.is_over ≡ false → device.journal.has_failed ≡ false
    sound going = neither was_over device.journal.has_failed (front (was_over || device.journal.has_failed) (not is_unsent) (sym over ∙ going))

-- A DATAGRAM

module _ {L F C : Type 0} (slave : ℕ) (half : SlaveHalf) (frame : List Pdu) (k : ℕ) (before after : WireDevice L F C) (result : Resting)
    (carried : CarriesFrame slave half frame before.sender.log.all after.sender.log.all after.is_over after.resting)
    (was_going : before.is_over ≡ false) (is : after.is_over ≡ false → result ≡ after.resting) (over : IsTrue after.is_over → result ≡ resting.Stays)
    (same : after.journal ≡ before.journal)
    (as_part : SendsAsPart before.journal.asking.part slave before.sender.log.all after.sender.log.all) where
  -- what was sent more went to this slave
  own_calls : AreFor before.journal.asking.part (exchanges before.sender.log.all) → AreFor before.journal.asking.part (exchanges after.sender.log.all)
  own_calls so_far = by as_part
    where
      by : SendsAsPart before.journal.asking.part slave before.sender.log.all after.sender.log.all
          → AreFor before.journal.asking.part (exchanges after.sender.log.all)
      by (inl none) = subst (λ (sent : List Exchange). AreFor before.journal.asking.part (exchanges sent)) (sym none) so_far
      by (inr works) =
          subst (AreFor before.journal.asking.part) (sym carried.sends.goes_on)
          (All-append (IsForPart before.journal.asking.part) (exchanges before.sender.log.all) carried.calls so_far
          (λ k d inside. record { slave = slave; works = works; to = carried.to k d inside }))

  -- it is carried as the device answers
  as_answered : CarriesFrame slave half frame before.sender.log.all after.sender.log.all after.is_over result
  as_answered = record {
    calls = carried.calls;
    first = carried.first;
    sends = carried.sends;
    to = carried.to;
    carries = λ going.
        let due = carried.carries going in (due.0, due.1, subst (Carries slave half due.0 carried.calls) (sym (is going)) due.2);
  }

  pub rest_keeps : RestKeeps WireFollows slave half frame k before result after
  rest_keeps old new rested d running here at so state extends so_far = record {
    follows = by so_far.follows;
    sound = still_sound before after same (λ going. was_going) so_far.sound;
    own = λ going.
        subst (λ (p : Option LinePart). AreFor p (exchanges after.sender.log.all)) (sym (ap (λ (j : FileDevice F). j.asking.part) same))
        (own_calls (so_far.own was_going));
  }
    where
      by : HasFollowed before old ⊎ Refuses before → HasFollowed after new ⊎ Refuses after
      by (inl followed) = inl (one_step old new before after (wire.carried (record {
        slave = slave;
        half = half;
        here = here;
        frame = frame;
        k = k;
        d = d;
        at = at;
        result = result;
        rested = rested;
        rests = so;
        new_is = state;
        running = running;
        extends = extends;
        sends = wire.goes was_going (so_far.sound was_going) as_answered;
        over = over;
        journal = same;
      })) followed)
      by (inr refuses) = absurd (let e : true ≡ false = sym refuses.over ∙ was_going in cc)

-- a half that rests while the device is over: nothing is sent
module _ {L F C : Type 0} (slave : ℕ) (half : SlaveHalf) (frame : List Pdu) (k : ℕ) (device : WireDevice L F C) (over : IsTrue device.is_over) where
  pub over_before : RestKeeps WireFollows slave half frame k device resting.Stays device
  over_before old new rested d running here at so state extends so_far = record { follows = by so_far.follows; sound = so_far.sound; own = so_far.own }
    where
      by : HasFollowed device old ⊎ Refuses device → HasFollowed device new ⊎ Refuses device
      by (inl followed) = inl (one_step old new device device (wire.carried (record {
        slave = slave;
        half = half;
        here = here;
        frame = frame;
        k = k;
        d = d;
        at = at;
        result = resting.Stays;
        rested = rested;
        rests = so;
        new_is = state;
        running = running;
        extends = extends;
        sends = wire.was_over over refl;
        over = λ now. refl;
        journal = refl;
      })) followed)
      by (inr refuses) = inr refuses
