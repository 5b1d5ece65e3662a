-- What a power cut leaves of the journal's file and of real slaves together, at each moment of what a device on a wire has done.
use Rattle.std.proofs.Common.{◌≡◌, ◌≢◌, ◌⊎◌, ℕ, zero, suc, ◌<◌, ◌≤◌, Bool, true, false, List, [], ◌∷◌, ◌++◌, length, take, Some, Any, Result}
use Rattle.std.proofs.Common.{slice_get, slice_set, IsTrue, refl, sym, ap, subst, ◌∙◌, inl, inr, arith, append_assoc, length-append, eqb}
use Rattle.std.proofs.Math.Nat.{le_trans}
use Rattle.std.proofs.Math.Seq.{take-append_seam}
use Rattle.std.proofs.lemmas.Bool.Decides.{eqb_tells}
use Rattle.std.proofs.lemmas.List.{append-nil, append_cancel_left, length-set, take-append-le}
use Rattle.std.proofs.lemmas.Option.{slice_get_within}
use Rattle.esc_model.specs.Datagrams.{served_datagram}
use Rattle.esc_model.specs.SlaveHalf.{SlaveHalf, MayLeave}
use Rattle.site_core.specs.declared.fault.DeviceFault.{DeviceFault}
use Rattle.site_core.specs.Disk.{Disk, StopImage, write_begun, synced}
use Rattle.site_core.specs.State.{State, Seen, Pair, Moment, Leaves, EachMayLeave, clock}
use Rattle.site_core.specs.Calls.{WritesDisk, begin_write}
use Rattle.site_core.proofs.Moments.{Any-first}
use Rattle.site_core.proofs.Overlays.{StopImage-written, StopImage-failed}
use Rattle.site_core.proofs.StopImages.{StopImage-same, StopImage-synced}
use Rattle.site_core.proofs.Times.{slice_get-early, slice_get-seam}
use Rattle.site_shadow.specs.Following.{begin_of, first_of, LeftTowards, Extends}
use Rattle.site_shadow.specs.declared.device.Resting.{Resting}
use Rattle.site_shadow.specs.Resting.{RestsAs}
use Rattle.site_shadow.proofs.Towards.{last_left, now_left, Extends-now, Extends-first, Extends-clock, Extends-towards}
use Rattle.site_shadow.proofs.GoingThrough.{get-set}
use Rattle.site_file.specs.declared.asking.LineFile.TheVariants.{Journal}
use Rattle.site_file.specs.declared.asking.Log.{Log}
use Rattle.site_file.specs.declared.files.FileDevice.{FileDevice}
use Rattle.site_file.specs.declared.asking.Call.{Call}
use Rattle.site_file.specs.declared.asking.Call.TheVariants.{TellsLength as tells_length, Reads as reads, Writes as writes, Syncs as syncs}
use Rattle.site_file.specs.declared.asking.Asked.{Asked}
use Rattle.site_file.specs.Calls.{asked}
use Rattle.site_file.specs.Asking.{HasLog, Asks, AsksToRead, nothing as no_piece, piece}
use Rattle.site_file.specs.Device as device
use Rattle.site_file.specs.Files.{File, BecomesBy, MayBeLeft}
use Rattle.site_file.specs.Following as files
use Rattle.site_file.specs.Held.{of_file}
use Rattle.site_file.specs.AllFiles.{HoldsDisk, calls_of}
use Rattle.site_file.proofs.FilesFollow.{within, early_or_at}
use Rattle.site_file.proofs.SeveralCalls.{asks_nothing, asks_both, goes_on as log_goes_on}
use Rattle.site_wire.specs.declared.device.WireDevice.{WireDevice}
use Rattle.site_wire.specs.Sent.{Exchanged, exchanges, Sends}
use Rattle.site_wire.specs.RealSlaves.{IsSoFar, nothing as not_yet, and_more}
use Rattle.site_wire.specs.Journal as journal
use Rattle.site_wire.specs.Journal.{JournalStep}
use Rattle.site_wire.specs.Following as wire
use Rattle.site_wire.specs.Following.{SendsNothing, SendsFrame, KeepsHalves, Carried, CarriesFrame, Step, Run, HasFollowed, Refuses}
use Rattle.site_wire.specs.Moments.{SlavesFollow, SlavesLeave, SlavesFollowed, Doing, asked_by, sent_by, AreLeftOfSlaves, IsLeftOfJournal, LeavesHalves, LeavesSlaves, LeavesAt, HasDone}
use Rattle.site_wire.specs.Moments.{LeavesBetween, LeavesTogether, CutLeavesNoMore}
use Rattle.site_wire.proofs.AmendedLaws.{amended_leaves_no_more}
use Rattle.site_wire.proofs.Living.{so_far_none}
use Rattle.site_wire.proofs.Cuts.{served_leaves}
use Rattle.site_wire.proofs.Sends.{nothing_sent}
use Rattle.site_wire.proofs.Behind.{ran_before, runs_on, get_other, begins_to_follow, while_sent, slaves_followed, step_extends}
use Rattle.site_wire.proofs.JournalFile.{journal_followed}
use Rattle.site_wire.proofs.Between.{LeavesThen, start, while_going, begins_between, refuses_between, still_between, more_between}
use Rattle.site_wire.proofs.Together.{each_leaves, held_leaves}

-- ---- WHAT IS ASKED

-- calls that read
abbrev IsQuiet : Call → Type 0
IsQuiet tells_length = Unit {0}
IsQuiet (reads at count) = Unit {0}
IsQuiet (writes at bytes) = ⊥
IsQuiet syncs = ⊥

data AreReads : List Asked → Type 0 where
  no_read : AreReads []
  one_read : (call : Call) (done : Bool) (calls : List Asked) → IsQuiet call → AreReads calls → AreReads (asked Journal call done ∷ calls)

both_read : (calls others : List Asked) → AreReads calls → AreReads others → AreReads (calls ++ others)
both_read _ others no_read second = second
both_read _ others (one_read call done calls quiet first) second = one_read call done (calls ++ others) quiet (both_read calls others first second)

-- they leave the file as it was
one_reads : (call : Call) (done : Bool) (file : File) (image : List ℕ) (calls : List Asked) → IsQuiet call
    → ((mid : File) → MayBeLeft calls mid image → StopImage mid.disk image) → MayBeLeft (asked Journal call done ∷ calls) file image → StopImage file.disk image
one_reads tells_length done file image calls quiet rest (inl now) = now
one_reads tells_length done file image calls quiet rest (inr late) = subst (λ (f : File). StopImage f.disk image) late.1 (rest late.0 late.2)
one_reads (reads at count) done file image calls quiet rest (inl now) = now
one_reads (reads at count) done file image calls quiet rest (inr late) = subst (λ (f : File). StopImage f.disk image) late.1 (rest late.0 late.2)
one_reads (writes at bytes) done file image calls quiet rest left = absurd quiet
one_reads syncs done file image calls quiet rest left = absurd quiet

reads_leave : (calls : List Asked) (file : File) (image : List ℕ) → AreReads calls → MayBeLeft (of_file Journal calls) file image → StopImage file.disk image
reads_leave _ file image no_read left = left
reads_leave _ file image (one_read call done calls quiet others) left =
    one_reads call done file image (of_file Journal calls) quiet (λ mid later. reads_leave calls mid image others later) left

read_calls : (old new : Log) → AsksToRead Journal old new → (calls : List Asked) × Asks old new calls × AreReads calls
read_calls old _ no_piece = ([], asks_nothing old, no_read)
read_calls old new (piece mid _ at count done so_far once) =
    let before = read_calls old mid so_far in
    let one : List Asked = asked Journal (reads at count) done ∷ [] in
    (before.0 ++ one, asks_both before.0 one before.1 once, both_read before.0 one before.2 (one_read (reads at count) done [] tt no_read))

-- A state in the call that ends now, with the halves before it, of which a power cut may leave this image.
record LeavesImage (old new : Seen) (image : List ℕ) : Type 0 where
  state : State
  towards : (pair : Pair) → Leaves state pair → LeftTowards new (clock new) pair
  disk : StopImage state.disk image
  halves : state.halves ≡ old.state.halves

-- A step asks the journal nothing; or it asks this, and where the file held the disk before it, a power cut in it leaves of the file what it leaves of
-- the site in the call that ends then.
data Moves {F : Type 0} (old new : Seen) (before after : FileDevice F) : Type 0 where
  unmoved : Asks before.asking.calls after.asking.calls [] → Moves old new before after
  moves : (calls : List Asked) → Asks before.asking.calls after.asking.calls calls → before.has_failed ≡ false
      → ((mid : File) (image : List ℕ) → HoldsDisk old.state.disk mid → MayBeLeft (of_file Journal calls) mid image → LeavesImage old new image)
      → Moves old new before after

-- a write, also one that fails, may leave anything in its range
write_leaves : (file : File) (at : ℕ) (bytes : List ℕ) (done : Bool) (image : List ℕ) → at ≤ length file.disk.bytes
    → MayBeLeft (asked Journal (writes at bytes) done ∷ []) file image → StopImage (write_begun file.disk at (length bytes)) image
write_leaves file at bytes done image inside (inl now) = now
write_leaves file at bytes true image inside (inr late) =
    StopImage-written file.disk at bytes image inside (subst (λ (f : File). StopImage f.disk image) late.1 late.2)
write_leaves file at bytes false image inside (inr late) = StopImage-failed file.disk late.0.disk at (length bytes) image late.1.disk late.2

-- a sync, also one that fails, leaves no more
sync_leaves : (file : File) (done : Bool) (image : List ℕ) → file.is_sound ≡ true → MayBeLeft (asked Journal syncs done ∷ []) file image
    → StopImage file.disk image
sync_leaves file done image is_sound (inl now) = now
sync_leaves file true image is_sound (inr late) =
    let all : StopImage (synced file.disk) image =
    subst (λ (f : File). StopImage f.disk image) (late.1.all is_sound) late.2 in
    subst (λ (i : List ℕ). StopImage file.disk i) (sym (StopImage-synced file.disk image all)) (StopImage-same file.disk)
sync_leaves file false image is_sound (inr late) = record {
  bytes = λ at is. late.2.bytes at (rw late.1.unsynced is) ∙ late.1.bytes at is;
  no_shorter = let e = late.2.no_shorter in let same = late.1.synced_length in let longer = late.1.no_shorter in omega (arith, e, same, longer);
}

module _ {F : Type 0} (old new : Seen) (before after : FileDevice F) where
  same_calls : after ≡ record before { has_failed = true } → Moves old new before after
  same_calls same = unmoved (subst (λ (d : FileDevice F). Asks before.asking.calls d.asking.calls []) (sym same) (asks_nothing before.asking.calls))

  -- it is left of the state before the step
  left_before : (image : List ℕ) → Extends old new → StopImage old.state.disk image → LeavesImage old new image
  left_before image extends disk = record { state = old.state; towards = λ pair leaves. Extends-now old new pair extends leaves; disk = disk; halves = refl }

  reading : (calls : List Asked) → Extends old new → Asks before.asking.calls after.asking.calls calls → before.has_failed ≡ false → AreReads calls
      → Moves old new before after
  reading calls extends asks going quiet =
      moves calls asks going (λ mid image holds left. left_before image extends (held_leaves old.state.disk mid image holds (reads_leave calls mid image quiet left)))

  writing : (at : ℕ) (bytes : List ℕ) (done : Bool) (given : Result (Unit {0}) DeviceFault) → old.is_stopped ≡ false → at ≤ length old.state.disk.bytes
      → WritesDisk old at bytes given new → Asks before.asking.calls after.asking.calls (asked Journal (writes at bytes) done ∷ []) → before.has_failed ≡ false
      → Moves old new before after
  writing at bytes done given running inside wrote asks going = moves (asked Journal (writes at bytes) done ∷ []) asks going (λ mid image holds left. record {
    state = begin_write old.state at (length bytes);
    towards = λ pair leaves.
        last_left new old.past (record { before = old.state; faults = old.faults; middle = wrote.middle }) pair wrote.call.past
        (inr (subst (λ (states : List State). Any (λ state. Leaves state pair) states) (sym (wrote.begun (runs_on old running)))
        (Any-first (λ state. Leaves state pair) (begin_write old.state at (length bytes)) [] leaves)));
    disk = within (write_begun mid.disk at (length bytes)) (write_begun old.state.disk at (length bytes)) image holds.bytes holds.synced_length
        (λ place is. (is.0, holds.synced place is.1)) (write_leaves mid at bytes done image (rw holds.bytes inside) left);
    halves = refl;
  })

  syncing : (done : Bool) → Extends old new → Asks before.asking.calls after.asking.calls (asked Journal syncs done ∷ []) → before.has_failed ≡ false
      → Moves old new before after
  syncing done extends asks going =
      moves (asked Journal syncs done ∷ []) asks going (λ mid image holds left.
      left_before image extends (held_leaves old.state.disk mid image holds (sync_leaves mid done image holds.sound left)))

  moves_by : old.is_stopped ≡ false → Extends old new → JournalStep old before new after → Moves old new before after
  moves_by running extends (journal.goes_on goes (files.unasked same)) =
      unmoved (subst (λ (d : FileDevice F). Asks before.asking.calls d.asking.calls []) (sym same) (asks_nothing before.asking.calls))
  moves_by running extends (journal.goes_on goes (files.asks_length result (device.calls (device.over lacks stops same)))) = same_calls same
  moves_by running extends (journal.goes_on goes (files.asks_length result (device.calls (device.passes going asks passed well)))) =
      reading (asked Journal tells_length true ∷ []) extends asks going (one_read tells_length true [] tt no_read)
  moves_by running extends (journal.goes_on goes (files.asks_length result (device.calls (device.fails going asks fails failed)))) =
      reading (asked Journal tells_length false ∷ []) extends asks going (one_read tells_length false [] tt no_read)
  moves_by running extends (journal.goes_on goes (files.asks_length result (device.differs going asks stops well))) =
      reading (asked Journal tells_length true ∷ []) extends asks going (one_read tells_length true [] tt no_read)
  moves_by running extends (journal.goes_on goes (files.reads_bytes result (device.over lacks stops same))) = same_calls same
  moves_by running extends (journal.goes_on goes (files.reads_bytes result (device.compared going asks passed well))) =
      let read = read_calls before.asking.calls after.asking.calls asks in reading read.0 extends read.1 going read.2
  moves_by running extends (journal.goes_on goes (files.reads_bytes result (device.fails going asks fails failed))) =
      let read = read_calls before.asking.calls after.asking.calls asks in reading read.0 extends read.1 going read.2
  moves_by running extends (journal.write at bytes passing given was_running inside wrote reported (device.over lacks stops same)) = same_calls same
  moves_by running extends (journal.write at bytes passing given was_running inside wrote reported (device.passes going asks passed well)) =
      writing at bytes true given running inside wrote asks going
  moves_by running extends (journal.write at bytes passing given was_running inside wrote reported (device.fails going asks fails failed)) =
      writing at bytes false given running inside wrote asks going
  moves_by running extends (journal.sync passing given was_running syncs_it reported (device.over lacks stops same)) = same_calls same
  moves_by running extends (journal.sync passing given was_running syncs_it reported (device.passes going asks passed well)) = syncing true extends asks going
  moves_by running extends (journal.sync passing given was_running syncs_it reported (device.fails going asks fails failed)) = syncing false extends asks going

-- ---- WHAT IS DONE

asked_by-snoc : (all : List Doing) (one : Doing) → asked_by (all ++ one ∷ []) ≡ asked_by all ++ one.asked
asked_by-snoc [] one = append-nil one.asked
asked_by-snoc (first ∷ all) one = ap (λ (l : List Asked). first.asked ++ l) (asked_by-snoc all one) ∙ sym (append_assoc first.asked (asked_by all) one.asked)

sent_by-snoc : (all : List Doing) (one : Doing) → sent_by (all ++ one ∷ []) ≡ sent_by all ++ one.sent
sent_by-snoc [] one = append-nil one.sent
sent_by-snoc (first ∷ all) one = ap (λ (l : List Exchanged). first.sent ++ l) (sent_by-snoc all one) ∙ sym (append_assoc first.sent (sent_by all) one.sent)

-- slaves leave what may be left of each half
words_leave : (sent : List Exchanged) (begun now : List SlaveHalf) (words : List (List ℕ)) → length now ≡ length begun → SlavesLeave sent begun now
    → AreLeftOfSlaves sent begun begun words → EachMayLeave now words
words_leave sent begun now words many leave are =
    each_leaves now words (are.count ∙ sym many) (λ slave half left here there.
    let it = are.each slave left there in leave slave it.first half it.real it.later left it.here here it.at it.after it.lives it.leaves)

-- those that follow a half do
follow_leave : (sent : List Exchanged) (begun now : List SlaveHalf) → SlavesFollow sent begun now → SlavesLeave sent begun now
follow_leave sent begun now follow slave first half real later left at_first at_now station_is afterwards lives leaves =
    amended_leaves_no_more half later left (follow slave first half real later at_first at_now station_is afterwards lives).amended leaves

-- nothing is under way in what wasn't sent
at_rest : (sent part : List Exchanged) → IsSoFar [] part → sent ++ part ≡ sent
at_rest sent part so_far = ap (λ (l : List Exchanged). sent ++ l) (so_far_none part so_far) ∙ append-nil sent

entire : (sent : List Exchanged) → IsSoFar sent sent
entire [] = not_yet []
entire (call ∷ sent) = and_more call sent sent (entire sent)

-- What a device has done so far; and while its site goes on, a power cut leaves of the slaves what it may leave of their halves, also where the device
-- is over.
record Going {L F C : Type 0} (device : WireDevice L F C) (seen : Seen) : Type 0 where
  done : HasDone device seen
  leave : seen.is_stopped ≡ false → LeavesHalves (sent_by done.all) (first_of seen).halves seen.state.halves
  between : LeavesThen done.all seen

module _ {L F C : Type 0} (old new : Seen) (before after : WireDevice L F C) (extends : Extends old new) (done : HasDone before old) where
  from_start : (sent : List Exchanged) (now : List SlaveHalf) → LeavesHalves sent (first_of old).halves now → LeavesHalves sent (first_of new).halves now
  from_start sent now = subst (λ (begun : State). LeavesHalves sent begun.halves now) (sym (Extends-first old new extends))

  slaves_on : (time : ℕ) (sent : List Exchanged) → time ≤ clock old → LeavesSlaves old time sent → LeavesSlaves new time sent
  slaves_on time sent within leaves = record {
    state = leaves.state;
    towards = λ pair left. Extends-towards old new time pair extends within (leaves.towards pair left);
    halves = from_start sent leaves.state.halves leaves.halves;
  }

  leaves_on : (time : ℕ) (image : List ℕ) (sent : List Exchanged) → time ≤ clock old → LeavesAt old time image sent → LeavesAt new time image sent
  unfolding slaves_on
  leaves_on time image sent within leaves = record { slaves = slaves_on time sent within leaves.slaves; disk = leaves.disk }

  early_slaves : (place : ℕ) (one : Doing) (part : List Exchanged) → slice_get done.all place ≡ Some one → IsSoFar one.sent part
      → LeavesSlaves new one.time (sent_by (take place done.all) ++ part)
  early_slaves place one part is so_far =
      slaves_on one.time (sent_by (take place done.all) ++ part) (done.early place one is) (done.of_slaves place one part is so_far)

  early_leaves : (place : ℕ) (one : Doing) (image : List ℕ) (part : List Exchanged) → slice_get done.all place ≡ Some one
      → IsLeftOfJournal (asked_by (take place done.all)) one.asked (first_of new).disk image → IsSoFar one.sent part
      → LeavesAt new one.time image (sent_by (take place done.all) ++ part)
  early_leaves place one image part is left so_far =
      leaves_on one.time image (sent_by (take place done.all) ++ part) (done.early place one is)
      (done.leaves place one image part is
      (subst (λ (begun : State). IsLeftOfJournal (asked_by (take place done.all)) one.asked begun.disk image) (Extends-first old new extends) left) so_far)

  -- nothing more is done
  still : Asks before.journal.asking.calls after.journal.asking.calls [] → after.sender.log.all ≡ before.sender.log.all → HasDone after new
  still asks sent = record {
    all = done.all;
    asked = subst (HasLog after.journal.asking.calls) (append-nil (asked_by done.all)) (log_goes_on asks (asked_by done.all) done.asked);
    sent = ap exchanges sent ∙ done.sent;
    early = λ place one is. le_trans (done.early place one is) (Extends-clock old new extends);
    of_slaves = early_slaves;
    leaves = early_leaves;
  }

  module _ (one : Doing) (at : one.time ≡ clock new) (asks : Asks before.journal.asking.calls after.journal.asking.calls one.asked)
      (sends : Sends before.sender.log.all after.sender.log.all one.sent)
      (now : (image : List ℕ) (part : List Exchanged) → IsLeftOfJournal (asked_by done.all) one.asked (first_of old).disk image → IsSoFar one.sent part
      → LeavesAt new (clock new) image (sent_by done.all ++ part))
      (now_slaves : (part : List Exchanged) → IsSoFar one.sent part → LeavesSlaves new (clock new) (sent_by done.all ++ part)) where
    at_place : (place : ℕ) (it : Doing) → slice_get (done.all ++ one ∷ []) place ≡ Some it
        → ((slice_get done.all place ≡ Some it) × (take place (done.all ++ one ∷ []) ≡ take place done.all))
        ⊎ ((it ≡ one) × (take place (done.all ++ one ∷ []) ≡ done.all))
    at_place place it is =
        let inside : place < length (done.all ++ one ∷ []) = slice_get_within (done.all ++ one ∷ []) place it is in
        elim (early_or_at place (length done.all) (omega (arith, inside, length-append done.all (one ∷ [])))) [
          | inl early ↦ inl (sym (slice_get-early done.all (one ∷ []) place early) ∙ is, take-append-le place done.all (one ∷ []) (omega (arith, early)))
          | inr same ↦ inr (
            (let e : Some it ≡ Some one = sym is ∙ ap (slice_get (done.all ++ one ∷ [])) same ∙ slice_get-seam done.all (one ∷ []) in cc),
            ap (λ (n : ℕ). take n (done.all ++ one ∷ [])) same ∙ take-append_seam done.all (one ∷ []),
          )
        ]

    done_more : HasDone after new
    done_more = record {
      all = done.all ++ one ∷ [];
      asked = subst (HasLog after.journal.asking.calls) (sym (asked_by-snoc done.all one)) (log_goes_on asks (asked_by done.all) done.asked);
      sent = sends.goes_on ∙ ap (λ (l : List Exchanged). l ++ one.sent) done.sent ∙ sym (sent_by-snoc done.all one);
      early = λ place it is. elim (at_place place it is) [
        | inl early ↦ le_trans (done.early place it early.0) (Extends-clock old new extends)
        | inr last ↦ subst (λ (d : Doing). d.time ≤ clock new) (sym last.0) (omega (arith, at))
      ];
      of_slaves = λ place it part is so_far. elim (at_place place it is) [
        | inl early ↦
            subst (λ (l : List Doing). LeavesSlaves new it.time (sent_by l ++ part)) (sym early.1) (early_slaves place it part early.0 so_far)
        | inr last ↦
            subst (λ (l : List Doing). LeavesSlaves new it.time (sent_by l ++ part)) (sym last.1)
            (subst (λ (t : ℕ). LeavesSlaves new t (sent_by done.all ++ part)) (sym (ap (λ (d : Doing). d.time) last.0 ∙ at))
            (now_slaves part (subst (λ (d : Doing). IsSoFar d.sent part) last.0 so_far)))
      ];
      leaves = λ place it image part is left so_far. elim (at_place place it is) [
        | inl early ↦
            subst (λ (l : List Doing). LeavesAt new it.time image (sent_by l ++ part)) (sym early.1)
            (early_leaves place it image part early.0
            (subst (λ (l : List Doing). IsLeftOfJournal (asked_by l) it.asked (first_of new).disk image) early.1 left) so_far)
        | inr last ↦
            subst (λ (l : List Doing). LeavesAt new it.time image (sent_by l ++ part)) (sym last.1)
            (subst (λ (t : ℕ). LeavesAt new t image (sent_by done.all ++ part)) (sym (ap (λ (d : Doing). d.time) last.0 ∙ at))
            (now image part
            (subst (λ (begun : State). IsLeftOfJournal (asked_by done.all) one.asked begun.disk image) (Extends-first old new extends)
            (subst (λ (d : Doing). IsLeftOfJournal (asked_by done.all) d.asked (first_of new).disk image) last.0
            (subst (λ (l : List Doing). IsLeftOfJournal (asked_by l) it.asked (first_of new).disk image) last.1 left)))
            (subst (λ (d : Doing). IsSoFar d.sent part) last.0 so_far)))
      ];
    }

-- a file that held the disk as the site began holds it as long as no call on it has failed
holds_now : {L F C : Type 0} (device : WireDevice L F C) (seen : Seen) (so_far : HasFollowed device seen) (calls : List Asked) (file mid : File)
    → HasLog device.journal.asking.calls calls → device.journal.has_failed ≡ false → seen.is_stopped ≡ false → HoldsDisk (first_of seen).disk file
    → BecomesBy (of_file Journal calls) file mid → HoldsDisk seen.state.disk mid
holds_now device seen so_far calls file mid log going running holds becomes =
    let follows = journal_followed device seen (λ name. file) so_far holds in
    let same : calls_of follows.pieces ++ follows.last ≡ calls =
    append_cancel_left device.journal.asking.calls.begun.value (calls_of follows.pieces ++ follows.last) calls (sym follows.has ∙ log) in
    follows.holds going (runs_on seen running) Journal mid refl (subst (λ (l : List Asked). BecomesBy (of_file Journal l) file mid) (sym same) becomes)

-- ---- A STEP

module _ {L F C : Type 0} (old new : Seen) (before after : WireDevice L F C) (followed : HasFollowed before old) (slaves : SlavesFollowed before old)
    (slaves_now : SlavesFollowed after new) (so_far : Going before old) where
  -- nothing is sent, and no half changes
  quiet_leave : Extends old new → KeepsHalves old new → (done : List Doing) → sent_by done ≡ sent_by so_far.done.all → new.is_stopped ≡ false
      → LeavesHalves (sent_by done) (first_of new).halves new.state.halves
  quiet_leave extends halves done same running =
      subst (λ (sent : List Exchanged). LeavesHalves sent (first_of new).halves new.state.halves) (sym same)
      (subst (λ (now : List SlaveHalf). LeavesHalves (sent_by so_far.done.all) (first_of new).halves now) (sym (halves (runs_on new running)))
      (from_start old new before after extends so_far.done (sent_by so_far.done.all) old.state.halves (so_far.leave (ran_before old new extends running))))

  quiet_going : Extends old new → KeepsHalves old new → (done : HasDone after new) → sent_by done.all ≡ sent_by so_far.done.all → LeavesThen done.all new
      → Going after new
  quiet_going extends halves done same between = record { done = done; between = between; leave = quiet_leave extends halves done.all same }

  -- nothing is done
  idle_going : Extends old new → KeepsHalves old new → Asks before.journal.asking.calls after.journal.asking.calls [] → after.sender.log.all ≡ before.sender.log.all
      → Going after new
  unfolding still
  idle_going extends halves asks sent =
      quiet_going extends halves (still old new before after extends so_far.done asks sent) refl
      (still_between old new extends so_far.done.all so_far.done.early so_far.between (Extends-clock old new extends) (quiet_leave extends halves so_far.done.all refl))

  asked_going : old.is_stopped ≡ false → JournalStep old before.journal new after.journal → KeepsHalves old new → SendsNothing before after → Going after new
  unfolding done_more
  asked_going running step halves nothing = by (moves_by old new before.journal after.journal running extends step)
    where
      extends : Extends old new
      extends = step_extends old new before.journal after.journal step

      at_rest_then : (state : State) (part : List Exchanged) → state.halves ≡ old.state.halves → IsSoFar [] part
          → LeavesHalves (sent_by so_far.done.all ++ part) (first_of new).halves state.halves
      at_rest_then state part same under =
          subst (λ (sent : List Exchanged). LeavesHalves sent (first_of new).halves state.halves) (sym (at_rest (sent_by so_far.done.all) part under))
          (subst (λ (now : List SlaveHalf). LeavesHalves (sent_by so_far.done.all) (first_of new).halves now) (sym same)
          (from_start old new before after extends so_far.done (sent_by so_far.done.all) old.state.halves (so_far.leave running)))

      at_moment : (image : List ℕ) (part : List Exchanged) → LeavesImage old new image → IsSoFar [] part
          → LeavesAt new (clock new) image (sent_by so_far.done.all ++ part)
      at_moment image part leaves under = record {
        slaves = record { state = leaves.state; towards = leaves.towards; halves = at_rest_then leaves.state part leaves.halves under };
        disk = leaves.disk;
      }

      before_it : (part : List Exchanged) → IsSoFar [] part → LeavesSlaves new (clock new) (sent_by so_far.done.all ++ part)
      before_it part under = record {
        state = old.state;
        towards = λ pair leaves. Extends-now old new pair extends leaves;
        halves = at_rest_then old.state part refl under;
      }

      by : Moves old new before.journal after.journal → Going after new
      by (unmoved asks) = idle_going extends halves asks nothing.sent
      by (moves calls asks going leaves) =
          let one : Doing = record { time = clock new; asked = calls; sent = [] } in
          quiet_going extends halves (done_more old new before after extends so_far.done one refl asks
          (record { goes_on = ap exchanges nothing.sent ∙ sym (append-nil (exchanges before.sender.log.all)) })
          (λ image part cut under. at_moment image part
          (leaves cut.mid image
          (holds_now before old followed (asked_by so_far.done.all) cut.file cut.mid so_far.done.asked going running cut.held cut.became) cut.left) under) before_it)
          (sent_by-snoc so_far.done.all one ∙ append-nil (sent_by so_far.done.all))
          (more_between old new extends so_far.done.all so_far.done.early so_far.between one refl running
          (quiet_leave extends halves (so_far.done.all ++ one ∷ []) (sent_by-snoc so_far.done.all one ∙ append-nil (sent_by so_far.done.all))))

  module _ (it : Carried old before new after) where
    abbrev taken : SlaveHalf
    taken = (served_datagram it.rested it.d).half

    count_on : length new.state.halves ≡ length (first_of new).halves
    count_on =
        ap (λ (s : State). length s.halves) it.new_is ∙ length-set old.state.halves it.slave taken ∙ (so_far.leave it.running).count
        ∙ ap (λ (s : State). length s.halves) (sym (Extends-first old new it.extends))

    -- where the half stays as it is before it, the datagram takes nothing from what a power cut may leave
    leave_more : (sent : List Exchanged) → it.rested ≡ it.half → SlavesLeave sent (first_of old).halves old.state.halves
        → SlavesLeave sent (first_of old).halves new.state.halves
    leave_more sent same leave other first its real later left at_first at_now station_is afterwards lives leaves = by (eqb_tells other it.slave)
      where
        now_is : slice_get (slice_set old.state.halves it.slave taken) other ≡ Some its
        now_is = ap (λ (s : State). slice_get s.halves other) (sym it.new_is) ∙ at_now

        by : ((eqb other it.slave ≡ true) × (other ≡ it.slave)) ⊎ ((eqb other it.slave ≡ false) × (other ≢ it.slave)) → MayLeave its left
        by (inl this) =
            let is : taken ≡ its = (let e : Some taken ≡ Some its =
            sym (get-set old.state.halves it.slave it.half taken it.here) ∙ ap (slice_get (slice_set old.state.halves it.slave taken)) (sym this.1) ∙ now_is in cc) in
            subst (λ (h : SlaveHalf). MayLeave h left) is
            (subst (λ (h : SlaveHalf). MayLeave (served_datagram h it.d).half left) (sym same)
            (served_leaves it.half it.d left (leave other first it.half real later left at_first (ap (slice_get old.state.halves) this.1 ∙ it.here) station_is afterwards lives leaves)))
        by (inr separate) =
            leave other first its real later left at_first (sym (get_other old.state.halves it.slave other taken separate.1) ∙ now_is) station_is afterwards lives leaves

    stays_before : IsTrue after.is_over → it.rested ≡ it.half
    stays_before over = subst (λ (how : Resting). RestsAs how it.half it.rested) (it.over over) it.rests

    asks_none : Asks before.journal.asking.calls after.journal.asking.calls []
    asks_none = subst (λ (d : FileDevice F). Asks before.journal.asking.calls d.asking.calls []) (sym it.journal) (asks_nothing before.journal.asking.calls)

    from_first : (sent : List Exchanged) → SlavesLeave sent (first_of old).halves new.state.halves → SlavesLeave sent (first_of new).halves new.state.halves
    from_first sent = subst (λ (begun : State). SlavesLeave sent begun.halves new.state.halves) (sym (Extends-first old new it.extends))

    module _ (was_going : before.is_over ≡ false) (sound : before.journal.has_failed ≡ false)
        (carried : CarriesFrame it.slave it.half it.frame before.sender.log.all after.sender.log.all after.is_over it.result) where
      abbrev was_sent : List Exchanged
      was_sent = sent_by so_far.done.all

      parts : (part : List Exchanged) → IsSoFar carried.calls part
          → SlavesLeave (was_sent ++ part) (first_of old).halves old.state.halves ⊎ SlavesLeave (was_sent ++ part) (first_of old).halves new.state.halves
      parts =
          while_sent it.slave it.half it.frame it.k carried.calls it.result carried.to carried.first old new it.rested it.d it.here it.at it.rests it.new_is it.extends was_sent
          (subst (λ (log : List Exchanged). SlavesFollow log (first_of old).halves old.state.halves) (sym slaves.has ∙ so_far.done.sent) (slaves.follow was_going it.running))

      abbrev one : Doing
      one = record { time = clock new; asked = []; sent = carried.calls }

      old_halves : (part : List Exchanged) → SlavesLeave (was_sent ++ part) (first_of old).halves old.state.halves
          → LeavesHalves (was_sent ++ part) (first_of new).halves old.state.halves
      old_halves part leave =
          from_start old new before after it.extends so_far.done (was_sent ++ part) old.state.halves
          (record { count = (so_far.leave it.running).count; slaves = leave })

      new_halves : (sent : List Exchanged) → SlavesLeave sent (first_of old).halves new.state.halves → LeavesHalves sent (first_of new).halves new.state.halves
      new_halves sent leave = record { count = count_on; slaves = from_first sent leave }

      -- in the state before it, or in the one after it
      now_slaves : (part : List Exchanged) → IsSoFar carried.calls part → (there : LeavesSlaves new (clock new) (was_sent ++ part))
          × (there.state.disk ≡ old.state.disk)
      now_slaves part under = elim (parts part under) [
        | inl leave ↦ (
          record { state = old.state; towards = λ pair leaves. Extends-now old new pair it.extends leaves; halves = old_halves part leave },
          refl,
        )
        | inr leave ↦ (
          record { state = new.state; towards = λ pair leaves. now_left new (clock new) pair refl leaves; halves = new_halves (was_sent ++ part) leave },
          ap (λ (s : State). s.disk) it.new_is,
        )
      ]

      now : (image : List ℕ) (part : List Exchanged) → IsLeftOfJournal (asked_by so_far.done.all) [] (first_of old).disk image → IsSoFar carried.calls part
          → LeavesAt new (clock new) image (was_sent ++ part)
      now image part cut under =
          let there = now_slaves part under in
          record {
            slaves = there.0;
            disk = subst (λ (d : Disk). StopImage d image) (sym there.1)
                (held_leaves old.state.disk cut.mid image
                (holds_now before old followed (asked_by so_far.done.all) cut.file cut.mid so_far.done.asked sound it.running cut.held cut.became) cut.left);
          }

      done_now : HasDone after new
      done_now = done_more old new before after it.extends so_far.done one refl asks_none carried.sends now (λ part under. (now_slaves part under).0)

      leave_now : (over : Bool) → after.is_over ≡ over → new.is_stopped ≡ false → SlavesLeave (was_sent ++ carried.calls) (first_of new).halves new.state.halves
      unfolding done_now done_more
      leave_now false going running =
          subst (λ (log : List Exchanged). SlavesLeave log (first_of new).halves new.state.halves)
          (sym slaves_now.has ∙ done_now.sent ∙ sent_by-snoc so_far.done.all one)
          (follow_leave slaves_now.log (first_of new).halves new.state.halves (slaves_now.follow going running))
      leave_now true over running = from_first (was_sent ++ carried.calls) (elim (parts carried.calls (entire carried.calls)) [
        | inl leave ↦ leave_more (was_sent ++ carried.calls) (stays_before over) leave
        | inr leave ↦ leave
      ])

      leave_all : new.is_stopped ≡ false → LeavesHalves (sent_by (so_far.done.all ++ one ∷ [])) (first_of new).halves new.state.halves
      leave_all running = record {
        count = count_on;
        slaves = subst (λ (sent : List Exchanged). SlavesLeave sent (first_of new).halves new.state.halves) (sym (sent_by-snoc so_far.done.all one))
            (leave_now after.is_over refl running);
      }

      goes_going : Going after new
      unfolding done_now done_more
      goes_going = record {
        done = done_now;
        leave = leave_all;
        between = more_between old new it.extends so_far.done.all so_far.done.early so_far.between one refl it.running leave_all;
      }

    module _ (over : IsTrue before.is_over) (same : after ≡ before) where
      leave_over : LeavesHalves (sent_by so_far.done.all) (first_of new).halves new.state.halves
      leave_over = record {
        count = count_on;
        slaves = from_first (sent_by so_far.done.all) (leave_more (sent_by so_far.done.all)
            (stays_before (subst (λ (d : WireDevice L F C). IsTrue d.is_over) (sym same) over)) (so_far.leave it.running).slaves);
      }

      over_going : Going after new
      unfolding still
      over_going = record {
        done = still old new before after it.extends so_far.done asks_none (ap (λ (d : WireDevice L F C). d.sender.log.all) same);
        leave = λ running. leave_over;
        between = still_between old new it.extends so_far.done.all so_far.done.early so_far.between (Extends-clock old new it.extends) (λ running. leave_over);
      }

    carried_going : SendsFrame it.slave it.half it.frame it.result before after → Going after new
    carried_going (wire.was_over over same) = over_going over same
    carried_going (wire.goes was_going sound carried) = goes_going was_going sound carried

  going_on : Step old before new after → Going after new
  going_on (wire.idles goes halves same nothing) =
      idle_going goes.extends halves
      (subst (λ (d : FileDevice F). Asks before.journal.asking.calls d.asking.calls []) (sym same) (asks_nothing before.journal.asking.calls)) nothing.sent
  going_on (wire.asks running step halves nothing) = asked_going running step halves nothing
  going_on (wire.carried it) = carried_going it it.sends

-- ---- FROM THE BEGINNING

module _ {L F C : Type 0} where
  -- nothing is done yet
  begins_done : (device : WireDevice L F C) (seen : Seen) → HasLog device.journal.asking.calls [] → device.sender.log.all ≡ [] → HasDone device seen
  begins_done device seen unasked unsent = record {
    all = start ∷ [];
    asked = unasked;
    sent = ap exchanges unsent ∙ nothing_sent;
    early = λ place one is. subst (λ (d : Doing). d.time ≤ clock seen) (only place one is).0 (omega arith);
    of_slaves = λ place one part is under.
        let here = only place one is in
        subst (λ (d : Doing). LeavesSlaves seen d.time (sent_by (take place (start ∷ [])) ++ part)) here.0
        (subst (λ (l : List Doing). LeavesSlaves seen 0 (sent_by l ++ part)) (sym here.1)
        (first_slaves part (subst (λ (d : Doing). IsSoFar d.sent part) (sym here.0) under)));
    leaves = λ place one image part is left under.
        let here = only place one is in
        subst (λ (d : Doing). LeavesAt seen d.time image (sent_by (take place (start ∷ [])) ++ part)) here.0
        (subst (λ (l : List Doing). LeavesAt seen 0 image (sent_by l ++ part)) (sym here.1)
        (first_left image part
        (subst (λ (d : Doing). IsLeftOfJournal [] d.asked (first_of seen).disk image) (sym here.0)
        (subst (λ (l : List Doing). IsLeftOfJournal (asked_by l) one.asked (first_of seen).disk image) here.1 left))
        (subst (λ (d : Doing). IsSoFar d.sent part) (sym here.0) under)));
  }
    where
      only : (place : ℕ) (one : Doing) → slice_get (start ∷ []) place ≡ Some one → (start ≡ one) × (take place (start ∷ []) ≡ [])
      only zero one is = (cc, refl)
      only (suc place) one is = absurd cc

      first_slaves : (part : List Exchanged) → IsSoFar [] part → LeavesSlaves seen 0 part
      first_slaves part under = record {
        state = first_of seen;
        towards = λ pair leaves. leaves;
        halves = record {
          count = refl;
          slaves =
              subst (λ (sent : List Exchanged). SlavesLeave sent (first_of seen).halves (first_of seen).halves) (sym (so_far_none part under))
              (follow_leave [] (first_of seen).halves (first_of seen).halves (begins_to_follow (first_of seen)));
        };
      }

      first_left : (image : List ℕ) (part : List Exchanged) → IsLeftOfJournal [] [] (first_of seen).disk image → IsSoFar [] part → LeavesAt seen 0 image part
      first_left image part cut under = record {
        slaves = record {
          state = first_of seen;
          towards = λ pair leaves. leaves;
          halves = (first_slaves part under).halves;
        };
        disk = held_leaves (first_of seen).disk cut.mid image (subst (HoldsDisk (first_of seen).disk) (sym cut.became) cut.held) cut.left;
      }

  begins_going : (device : WireDevice L F C) (seen : Seen) → seen.past ≡ [] → HasLog device.journal.asking.calls [] → device.sender.log.all ≡ [] → Going device seen
  unfolding begins_done
  begins_going device seen new unasked unsent = record {
    done = begins_done device seen unasked unsent;
    leave = λ running. leave_first;
    between = begins_between seen (ap length new) leave_first;
  }
    where
      first : first_of seen ≡ seen.state
      first = ap (λ (past : List Moment). begin_of past seen.state) new

      leave_first : LeavesHalves [] (first_of seen).halves seen.state.halves
      leave_first =
          subst (λ (begun : State). LeavesHalves [] begun.halves seen.state.halves) (sym first)
          (record { count = refl; slaves = follow_leave [] seen.state.halves seen.state.halves (begins_to_follow seen.state) })

  module _ (first : Seen) (new : first.past ≡ []) (began : WireDevice L F C) (unasked : HasLog began.journal.asking.calls [])
      (unsent : began.sender.log.all ≡ []) where
    followed_by : (seen : Seen) (device : WireDevice L F C) → Run first began seen device → HasFollowed device seen
    followed_by seen device run = record { first = first; new = new; began = began; unasked = unasked; unsent = unsent; run = run }

    going : (seen : Seen) (device : WireDevice L F C) → Run first began seen device → Going device seen
    going seen device wire.none = begins_going began first new unasked unsent
    going seen device (wire.more mid last half_way end so_far one) =
        let before : HasFollowed half_way mid = followed_by mid half_way so_far in
        let after : HasFollowed end last = followed_by last end (wire.more mid last half_way end so_far one) in
        going_on mid last half_way end before (slaves_followed half_way mid before) (slaves_followed end last after) (going mid half_way so_far) one

refused : {L F C : Type 0} (device : WireDevice L F C) (seen : Seen) → Refuses device → (done : HasDone device seen) × LeavesBetween device.is_over done.all seen
unfolding begins_done
refused device seen refuses = (begins_done device seen refuses.unasked refuses.unsent, refuses_between device.is_over seen refuses.over)

pub leaves_together : (L F C : Type 0) → LeavesTogether L F C
leaves_together L F C device seen follows = by follows.follows
  where
    by : HasFollowed device seen ⊎ Refuses device → (done : HasDone device seen) × LeavesBetween device.is_over done.all seen
    by (inl so_far) = let all = going so_far.first so_far.new so_far.began so_far.unasked so_far.unsent seen device so_far.run in
        (all.done, while_going device.is_over all.done.all seen all.between)
    by (inr refuses) = refused device seen refuses

pub cut_leaves_no_more : (L F C : Type 0) → CutLeavesNoMore L F C
cut_leaves_no_more L F C device seen done place one pair is cut =
    let at = done.leaves place one pair.disk cut.part is cut.journal cut.so_far in
    at.slaves.towards pair (record {
      disk = at.disk;
      words = words_leave (sent_by (take place done.all) ++ cut.part) (first_of seen).halves at.slaves.state.halves pair.words at.slaves.halves.count
          at.slaves.halves.slaves cut.slaves;
    })
