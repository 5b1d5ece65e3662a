-- A device on a wire behind its shadow: what it sends for a datagram, and what it does step by step (ETG.1000.4, slave information interface).
use Rattle.std.specs.Prelude.{◌≡◌, ℕ, ◌+◌, ◌<◌, ◌⊎◌, ◌==◌, Bool, false, IsTrue, refl, List, [], ◌∷◌, ◌++◌}
use Rattle.std.specs.Prelude.{Option, Some, None, slice_get}
use Rattle.std.specs.Prelude.{slice_index, if◌then◌else◌}
use Rattle.std.specs.List.{All}
use Rattle.std.proofs.Common.{inl, inr}
use Rattle.ecat_frame.specs.Frame.{Pdu}
use Rattle.esc_model.specs.Bytes.{station_of, word_at}
use Rattle.esc_model.specs.Orders.{station, poll_order}
use Rattle.esc_model.specs.declared.rest.WordWrite.{WordWrite}
use Rattle.esc_model.specs.SlaveHalf.{SlaveHalf, Idle, is_busy, in_flight}
use Rattle.esc_model.specs.Datagrams.{served_datagram}
use Rattle.site_core.specs.State.{Seen, with_half}
use Rattle.site_shadow.specs.Following.{Extends, GoesOn, IsUnasked}
use Rattle.site_shadow.specs.Resting.{RestsAs}
use Rattle.site_shadow.specs.declared.device.Resting.{Resting}
use Rattle.site_shadow.specs.declared.device.Resting.TheVariants as resting
use Rattle.wire_frames.specs.Sending.{IsForEeprom}
use Rattle.site_wire.specs.Due.{WritesControl, IsFit, IsOwn}
use Rattle.site_wire.specs.Known.{IsKnown}
use Rattle.site_wire.specs.Answers.{shown_status}
use Rattle.site_wire.specs.Answering.{shown_by}
use Rattle.site_wire.specs.declared.sending.Exchange.{Exchange}
use Rattle.site_wire.specs.Sent.{Exchanged, exchanged, exchanges, Sends}
use Rattle.site_wire.specs.RealSlaves.{Lives}
use Rattle.site_file.specs.Asking.{HasLog}
use Rattle.site_wire.specs.Journal.{JournalStep}
use Rattle.site_wire.specs.Parts.{AreFor}
use Rattle.site_wire.specs.declared.amending.Tried.{Tried}
use Rattle.site_wire.specs.declared.amending.Tried.TheVariants as tried
use Rattle.site_wire.specs.declared.answers.AccessState.{AccessState}
use Rattle.site_wire.specs.declared.answers.AccessState.TheVariants as shown
use Rattle.site_wire.specs.declared.device.WireDevice.{WireDevice}

-- WHAT A DEVICE SENDS OF ITS OWN

-- It goes to the slave at this place, and reads registers, or is what a device sends of its own while the shadow is busy.
pub record IsOwnTo (slave : ℕ) (half : SlaveHalf) (call : Exchanged) : Type 0 where
  pub to : station_of call.sent.address ≡ station slave
  pub own : (call.sent.command ≡ 4) ⊎ ((call.sent.command ≡ 5) × IsOwn half call.sent)

-- From the one to the other nothing else is sent.
pub record SendsOwn (slave : ℕ) (half : SlaveHalf) (old new : List Exchange) : Type 0 where
  pub calls : List Exchanged
  pub sends : Sends old new calls
  pub own : All (IsOwnTo slave half) calls

-- The calls end with a poll whose answer shows that the slave is idle without an error.
pub record EndsWell (calls : List Exchanged) : Type 0 where
  pub front : List Exchanged
  pub poll : Pdu
  pub found : Pdu
  pub split : calls ≡ front ++ exchanged poll (Some found) ∷ []
  pub well : shown_by (shown_status found) ≡ shown.Well

-- A slave is polled, any number of times.
pub record Polls (slave : ℕ) (old new : List Exchange) (result : Option AccessState) : Type 0 where
  pub calls : List Exchanged
  pub sends : Sends old new calls
  pub polls : All (λ call. call.sent ≡ poll_order slave) calls
  pub well : result ≡ Some shown.Well → EndsWell calls

-- Whatever a real slave at this place was before these calls, after them it is idle, and its word has this value.
abbrev pub TellsWord : (slave word value : ℕ) → List Exchanged → Type 0
TellsWord slave word value calls = (real later : SlaveHalf) → real.station ≡ station slave → Lives calls real later
    → (later.activity ≡ Idle) × (slice_index later.words word ≡ value)

-- the same of this word and the next one: they have these bytes
abbrev pub TellsPair : (slave word : ℕ) → (pair : List ℕ) → List Exchanged → Type 0
TellsPair slave word pair calls = (real later : SlaveHalf) → real.station ≡ station slave → Lives calls real later
    → (later.activity ≡ Idle) × (slice_index later.words word ≡ word_at pair 0) × (slice_index later.words (word + 1) ≡ word_at pair 2)

-- One try to read a word and the next one: the bytes that are told are the slave's.
pub record TriesPair (slave : ℕ) (half : SlaveHalf) (word : ℕ) (old new : List Exchange) (result : Option Tried) : Type 0 where
  pub calls : List Exchanged
  pub sends : Sends old new calls
  pub own : All (IsOwnTo slave half) calls
  pub tells : (pair : List ℕ) → result ≡ Some (tried.Read pair) → TellsPair slave word pair calls

-- A word is read back: the value that is told is the slave's.
pub record ReadsBack (slave : ℕ) (half : SlaveHalf) (word : ℕ) (old new : List Exchange) (result : Option ℕ) : Type 0 where
  pub calls : List Exchanged
  pub sends : Sends old new calls
  pub own : All (IsOwnTo slave half) calls
  pub tells : (value : ℕ) → result ≡ Some value → TellsWord slave word value calls

-- how a word ends that the slave holds as this value
abbrev pub rests_with : WordWrite → (value : ℕ) → Resting
rests_with write value = if value == write.value then resting.Well else resting.FailedWith value

-- The word in flight stays in flight; or it was read back, and ends with the value that the slave has.
pub data RestsBy (slave : ℕ) (write : WordWrite) (calls : List Exchanged) : Resting → Type 0 where
  stays : RestsBy slave write calls resting.Stays
  read_back : (value : ℕ) → TellsWord slave write.word value calls → RestsBy slave write calls (rests_with write value)

-- A slave whose half has this word in flight is told it again or read back, as an answer shows.
pub record FollowsUp (slave : ℕ) (half : SlaveHalf) (write : WordWrite) (old new : List Exchange) (resting : Resting) : Type 0 where
  pub calls : List Exchanged
  pub sends : Sends old new calls
  pub own : All (IsOwnTo slave half) calls
  pub rests : RestsBy slave write calls resting

-- WHAT IT SENDS FOR A DATAGRAM THAT THE HALF IS TO TAKE

-- These calls, and how the half becomes idle before it takes the datagram: nothing is sent, since a busy half takes nothing of the datagram, or
-- since it tells nothing new, and a read ends; or the datagram is sent and comes back, and a word in flight is followed up.
pub data Carries (slave : ℕ) (half : SlaveHalf) (d : Pdu) : List Exchanged → Resting → Type 0 where
  waits : IsTrue (is_busy half.activity) → WritesControl d → Carries slave half d [] resting.Stays
  known : IsKnown half d → Carries slave half d [] resting.Well
  passes : (found : Pdu) → (IsTrue (is_busy half.activity) → ¬ WritesControl d) → in_flight half.activity ≡ None → ¬ IsKnown half d
      → Carries slave half d (exchanged d (Some found) ∷ []) resting.Stays
  follows_up : (found : Pdu) (write : WordWrite) (calls : List Exchanged) (resting : Resting) → ¬ WritesControl d
      → in_flight half.activity ≡ Some write → All (IsOwnTo slave half) calls → RestsBy slave write calls resting
      → Carries slave half d (exchanged d (Some found) ∷ calls) resting

-- The datagram is sent, as the half may take it, and what is sent after it is the device's own; also where the device stops.
pub data SendsFirst (slave : ℕ) (half : SlaveHalf) (d : Pdu) : List Exchanged → Type 0 where
  is_lost : (IsTrue (is_busy half.activity) → ¬ WritesControl d) → ¬ IsKnown half d → SendsFirst slave half d (exchanged d None ∷ [])
  comes_back : (found : Pdu) (own : List Exchanged) → (IsTrue (is_busy half.activity) → ¬ WritesControl d) → ¬ IsKnown half d
      → All (IsOwnTo slave half) own → SendsFirst slave half d (exchanged d (Some found) ∷ own)

-- From the one to the other a device sends to the slave at this place alone, and unless its site is over then, it carries the datagram.
pub record SendsFor (slave : ℕ) (half : SlaveHalf) (d : Pdu) (old new : List Exchange) (is_over : Bool) (resting : Resting) : Type 0 where
  pub calls : List Exchanged
  pub first : SendsFirst slave half d calls
  pub sends : Sends old new calls
  pub to : All (λ call. station_of call.sent.address ≡ station slave) calls
  pub carries : is_over ≡ false → Carries slave half d calls resting

-- The frame has this one datagram, which no slave has counted, for registers of the EEPROM of the slave at this place, whose command is one for
-- this half.
pub record IsDueTo (slave : ℕ) (half : SlaveHalf) (frame : List Pdu) (d : Pdu) : Type 0 where
  pub one : frame ≡ d ∷ []
  pub fresh : d.counter ≡ 0
  pub fits : IsFit half d
  pub eeprom : IsForEeprom d
  pub to : station_of d.address ≡ station slave
  pub bytes : All (λ (byte : ℕ). byte < 256) d.content

-- the same of a frame, which is due to this slave unless nothing is sent and the site is over
pub record CarriesFrame (slave : ℕ) (half : SlaveHalf) (frame : List Pdu) (old new : List Exchange) (is_over : Bool) (resting : Resting)
    : Type 0 where
  pub calls : List Exchanged
  pub first : (calls ≡ []) ⊎ ((d : Pdu) × IsDueTo slave half frame d × SendsFirst slave half d calls)
  pub sends : Sends old new calls
  pub to : All (λ call. station_of call.sent.address ≡ station slave) calls
  pub carries : is_over ≡ false → (d : Pdu) × IsDueTo slave half frame d × Carries slave half d calls resting

-- Nothing is sent, and the device goes on only where it did.
pub record SendsNothing {L F C : Type 0} (old new : WireDevice L F C) : Type 0 where
  pub sent : new.sender.log.all ≡ old.sender.log.all
  pub over : new.is_over ≡ false → old.is_over ≡ false

-- STEP BY STEP

-- The halves stay, unless the site stops.
abbrev pub KeepsHalves : (old new : Seen) → Type 0
KeepsHalves old new = ¬ IsTrue new.is_stopped → new.state.halves ≡ old.state.halves

-- What is sent for a datagram: a device that is over sends nothing; any other, of whose journal no call has failed, carries the frame.
pub data SendsFrame {L F C : Type 0} (slave : ℕ) (half : SlaveHalf) (frame : List Pdu) (result : Resting) (before after : WireDevice L F C) : Type 0 where
  was_over : IsTrue before.is_over → after ≡ before → SendsFrame slave half frame result before after
  goes : before.is_over ≡ false → before.journal.has_failed ≡ false
      → CarriesFrame slave half frame before.sender.log.all after.sender.log.all after.is_over result → SendsFrame slave half frame result before after

-- The half of a slave becomes idle as the device says, and takes the datagram at index `k` of a frame, for which this is sent. Where the device is
-- over then, the half stays as it is before it.
pub record Carried {L F C : Type 0} (old : Seen) (before : WireDevice L F C) (new : Seen) (after : WireDevice L F C) : Type 0 where
  pub slave : ℕ
  pub half : SlaveHalf
  pub here : slice_get old.state.halves slave ≡ Some half
  pub frame : List Pdu
  pub k : ℕ
  pub d : Pdu
  pub at : slice_get frame k ≡ Some d
  pub result : Resting
  pub rested : SlaveHalf
  pub rests : RestsAs result half rested
  pub new_is : new.state ≡ with_half old.state slave (served_datagram rested d).half
  pub running : old.is_stopped ≡ false
  pub extends : Extends old new
  pub sends : SendsFrame slave half frame result before after
  pub over : IsTrue after.is_over → result ≡ resting.Stays
  pub journal : after.journal ≡ before.journal

-- One step: what the site does, and what its device asks the journal's file and sends to the slaves in it.
pub data Step {L F C : Type 0} (old : Seen) (before : WireDevice L F C) (new : Seen) (after : WireDevice L F C) : Type 0 where
  -- nothing is asked or sent
  idles : GoesOn old new → KeepsHalves old new → after.journal ≡ before.journal → SendsNothing before after → Step old before new after
  -- a call on the disk
  asks : old.is_stopped ≡ false → JournalStep old before.journal new after.journal → KeepsHalves old new → SendsNothing before after
      → Step old before new after
  -- a slave's half takes a datagram
  carried : Carried old before new after → Step old before new after

-- any number of steps
pub data Run {L F C : Type 0} (old : Seen) (before : WireDevice L F C) : (new : Seen) (after : WireDevice L F C) → Type 0 where
  none : Run old before old before
  more : (mid new : Seen) (half_way after : WireDevice L F C) → Run old before mid half_way → Step mid half_way new after → Run old before new after

-- The device was put behind the site before its first call, where its logs begin, and these steps led both there.
pub record HasFollowed {L F C : Type 0} (device : WireDevice L F C) (seen : Seen) : Type 0 where
  pub first : Seen
  pub new : first.past ≡ []
  pub began : WireDevice L F C
  pub unasked : HasLog began.journal.asking.calls []
  pub unsent : began.sender.log.all ≡ []
  pub run : Run first began seen device

-- It was put behind a site that had seen a call: it has asked and sent nothing, and refuses to.
pub record Refuses {L F C : Type 0} (device : WireDevice L F C) : Type 0 where
  pub unasked : HasLog device.journal.asking.calls []
  pub unsent : device.sender.log.all ≡ []
  pub failed : IsTrue device.journal.has_failed
  pub over : IsTrue device.is_over

-- A device on a wire has followed its site, step by step, from before the first call on; or it was put there later. As long as it isn't over, no call
-- on the journal has failed, and all was sent to slaves on which the device of its part works.
pub record WireFollows {L F C : Type 0} (device : WireDevice L F C) (seen : Seen) : Type 0 where
  pub follows : HasFollowed device seen ⊎ Refuses device
  pub sound : device.is_over ≡ false → device.journal.has_failed ≡ false
  pub own : device.is_over ≡ false → AreFor device.journal.asking.part (exchanges device.sender.log.all)

-- one step more
pub one_step : {L F C : Type 0} (old new : Seen) (before after : WireDevice L F C) → Step old before new after → HasFollowed before old
    → HasFollowed after new
one_step old new before after step so_far = record {
  first = so_far.first;
  new = so_far.new;
  began = so_far.began;
  unasked = so_far.unasked;
  unsent = so_far.unsent;
  run = more old new before after so_far.run step;
}

-- a step in which nothing changes that it holds
pub stays_so : {L F C : Type 0} (device : WireDevice L F C) (old new : Seen) → GoesOn old new → KeepsHalves old new → WireFollows device old
    → WireFollows device new
stays_so {L} {F} {C} device old new goes_on halves so_far = record { follows = by so_far.follows; sound = so_far.sound; own = so_far.own }
  where
    by : HasFollowed device old ⊎ Refuses device → HasFollowed device new ⊎ Refuses device
    by (inl followed) = inl (one_step old new device device (idles goes_on halves refl (record { sent = refl; over = λ going. going })) followed)
    by (inr refuses) = inr refuses

-- the law of the trait: a step in which the device isn't asked
pub follows_on : {L F C : Type 0} (device : WireDevice L F C) (old new : Seen) → IsUnasked old new → WireFollows device old
    → WireFollows device new
follows_on device old new unasked so_far = stays_so device old new unasked.goes unasked.halves so_far
