-- A device follows its shadow through calls in which it isn't asked.
use Rattle.std.proofs.Common.{◌≡◌, ◌≢◌, ◌⊎◌, ℕ, Bool, true, false, List, [], ◌∷◌, ◌++◌, take, Any, Option, Some, None, is_some, length, slice_get, slice_set, Result, Err, IsErrOf, IsTrue, refl, sym, ap, subst, ◌∙◌, inl, inr}
use Rattle.ecat_frame.specs.Frame.{Pdu}
use Rattle.ecat_frame.specs.Copies.{IsCopyOf}
use Rattle.ecat_frame.specs.declared.copies.DatagramHeader.{DatagramHeader}
use Rattle.esc_model.specs.SlaveHalf.{SlaveHalf, Outcome}
use Rattle.esc_model.specs.Datagrams.{served_datagram}
use Rattle.site_core.specs.declared.fault.DeviceFault.{DeviceFault}
use Rattle.site_core.specs.declared.fault.DeviceFault.TheVariants as faults
use Rattle.site_core.specs.State.{State, Seen, CycleTurn, Pair, Moment, Leaves, with_half, last_of}
use Rattle.site_core.specs.Calls.{Calls, WritesDisk}
use Rattle.site_core.proofs.Moments.{Any-first, Any-later}
use Rattle.site_shadow.specs.declared.device.Passing.{Passing}
use Rattle.site_shadow.specs.declared.device.Resting.{Resting}
use Rattle.site_shadow.specs.declared.pattern.Pattern.{Pattern}
use Rattle.site_shadow.specs.Line.{halves_of}
use Rattle.site_shadow.specs.Going.{HalfTakes}
use Rattle.site_shadow.specs.Stopping.{noted, begun, HasStopped, CountsFault, counted, stops}
use Rattle.site_shadow.specs.Following as steps
use Rattle.site_shadow.specs.Following.{Extends, KeepsContents, GoesOn, IsUnasked, IsReported, Asks, RestKeeps, FollowsAfter, TakenKeeps, TakeKeeps}
use Rattle.site_shadow.proofs.Calling.{WritesDisk-fails}
use Rattle.site_shadow.proofs.LineHalves.{halves_of-get, halves_of-set}
use Rattle.site_shadow.proofs.GoingThrough.{served_as}
use Rattle.site_core.proofs.Unions.{Any-left}

-- a moment is added to the past
extends_with : (old new : Seen) (moment : Moment) → new.past ≡ old.past ++ moment ∷ [] → moment.before ≡ old.state
    → (IsTrue old.is_stopped → IsTrue new.is_stopped) → Extends old new
extends_with old new moment past before stopped = record { goes = steps.begins moment before past; stopped = stopped }

pub Extends-by : {T : Type 0} (old new : Seen) (middle : List State) (result : Result T DeviceFault) → Calls old middle result new → Extends old new
Extends-by old new middle result call =
    extends_with old new (record { before = old.state; faults = old.faults; middle = middle }) call.past refl
    (λ stopped. call.stopped.1 (call.stays_stopped stopped).0)

KeepsContents-same : (old new : State) → new ≡ old → KeepsContents old new
KeepsContents-same old new same = subst (λ (s : State). KeepsContents old s) (sym same) (record {
  bytes = refl;
  synced_length = refl;
  synced = λ at synced. synced;
  words = λ slave half here. (half, here, refl);
})

-- a call after which the state is the same, unless the site stops
unchanged : (old new : Seen) → Extends old new → (¬ IsTrue new.is_stopped → new.state ≡ old.state) → GoesOn old new
unchanged old new extends same = record { extends = extends; kept = λ going. KeepsContents-same old.state new.state (same going) }

not_stopped : {T : Type 0} (old new : Seen) (middle : List State) (result : Result T DeviceFault) → Calls old middle result new
    → (result ≢ Err faults.Stopped → new.state ≡ old.state) → ¬ IsTrue new.is_stopped → new.state ≡ old.state
not_stopped {T} old new middle result call same going =
    same (λ e. going (call.stopped.1 (subst (λ (r : Result T DeviceFault). IsErrOf r faults.Stopped) (sym e) refl)))

-- a call that leaves the state as it is, unless the site stops
pub GoesOn-by : {T : Type 0} (old new : Seen) (middle : List State) (result : Result T DeviceFault) → Calls old middle result new
    → (result ≢ Err faults.Stopped → new.state ≡ old.state) → GoesOn old new
GoesOn-by {T} old new middle result call same =
    unchanged old new (Extends-by old new middle result call) (not_stopped old new middle result call same)

-- a call of a site that has stopped
pub Unasked-over : {T : Type 0} (old new : Seen) (middle : List State) (result : Result T DeviceFault) → Calls old middle result new → IsTrue old.is_stopped
    → IsUnasked old new
Unasked-over {T} old new middle result call over =
    let over_still : IsTrue new.is_stopped = call.stopped.1 (call.stays_stopped over).0 in
    record {
      goes = unchanged old new (Extends-by old new middle result call) (λ going. absurd (going over_still));
      halves = λ going. absurd (going over_still);
      why = inl over;
    }

-- A call in which the device is asked, unless the site has stopped.
pub Asks-keeps : {D : Type 0} (follows : D → Seen → Type 0)
    → ((device : D) (old new : Seen) → IsUnasked old new → follows device old → follows device new)
    → (before after : D) (old new : Seen) (passing : Passing) (given : Result (Unit {0}) DeviceFault) → Asks follows before old passing after
    → Calls old [] given new → (given ≢ Err faults.Stopped → new.state ≡ old.state)
    → (old.is_stopped ≡ false → IsReported old.faults passing given) → follows before old → follows after new
Asks-keeps {D} follows goes_on before after old new passing given asks call same reported followed = by old.is_stopped refl
  where
    by : (over : Bool) → old.is_stopped ≡ over → follows after new
    by false going = asks.asked going old new given going call same (reported going) followed
    by true over =
        goes_on after old new (Unasked-over old new [] given call over) (subst (λ (d : D). follows d old) (sym (asks.unasked over)) followed)

-- the same after which a turn is noted
pub Calls-turned : {T : Type 0} (old mid new : Seen) (middle : List State) (result : Result T DeviceFault) (turns : List CycleTurn)
    → Calls old middle result mid → new ≡ record mid { turns = turns } → Calls old middle result new
Calls-turned old mid new middle result turns call is = subst (Calls old middle result) (sym is) (record {
  past = call.past;
  counted = call.counted;
  stopped = call.stopped;
  at_stop = call.at_stop;
  stays_stopped = call.stays_stopped;
})

-- IN THE MIDDLE OF A CALL

-- what may be left of the last state is left at the moment
at_last : (first : State) (states : List State) (pair : Pair) → Leaves (last_of first states) pair
    → Leaves first pair ⊎ Any (λ state. Leaves state pair) states
at_last first [] pair leaves = inl leaves
at_last first (s ∷ states) pair leaves = elim (at_last s states pair leaves) [
  | inl here ↦ inr (Any-first (λ state. Leaves state pair) s states here)
  | inr there ↦ inr (Any-later (λ state. Leaves state pair) s states there)
]

longer : (states others : List State) (first : State) (pair : Pair) → Leaves first pair ⊎ Any (λ state. Leaves state pair) states
    → Leaves first pair ⊎ Any (λ state. Leaves state pair) (states ++ others)
longer states others first pair (inl here) = inl here
longer states others first pair (inr there) = inr (Any-left (λ state. Leaves state pair) states others there)

-- one state more
pub Extends-middle : (old : Seen) (middle : List State) (state later : State) → last_of old.state middle ≡ state
    → Extends (noted old middle state) (noted old (middle ++ later ∷ []) later)
Extends-middle old middle state later last = record {
  goes = steps.goes_on old.past (record { before = old.state; faults = old.faults; middle = middle })
      (record { before = old.state; faults = old.faults; middle = middle ++ later ∷ [] }) refl refl refl (λ pair left. elim left [
        | inl leaves ↦ longer middle (later ∷ []) old.state pair (at_last old.state middle pair (subst (λ (s : State). Leaves s pair) (sym last) leaves))
        | inr was ↦ longer middle (later ∷ []) old.state pair was
      ]);
  stopped = λ stopped. stopped;
}

-- the site stops at the end of a call
pub GoesOn-torn : (old : Seen) (middle : List State) (state : State) (new : Seen) → last_of old.state middle ≡ state
    → HasStopped (noted old middle state) new → GoesOn (noted old middle state) new
GoesOn-torn old middle state new last has =
    let moment : Moment = record { before = old.state; faults = old.faults; middle = middle } in
    let past : new.past ≡ old.past ++ moment ∷ [] = ap (λ (s : Seen). s.past) has.rest in
    let is_over : new.is_stopped ≡ true = ap (λ (s : Seen). s.is_stopped) has.rest in
    unchanged (noted old middle state) new (record {
      goes = steps.goes_on old.past moment moment refl refl past (λ pair left. elim left [
        | inl leaves ↦ at_last old.state middle pair (subst (λ (s : State). Leaves s pair) (sym last) leaves)
        | inr was ↦ was
      ]);
      stopped = λ stopped. is_over;
    }) (λ going. absurd (going is_over))

-- a write for which there was no memory: its range is unsynced
KeepsContents-begun : (old : Seen) (at count : ℕ) → KeepsContents old.state (begun old at count)
KeepsContents-begun old at count = record {
  bytes = refl;
  synced_length = refl;
  synced = λ place is. is.1;
  words = λ slave half here. (half, here, refl);
}

kept_unbegun : (old : Seen) (at count : ℕ) (given : DeviceFault) (new : Seen)
    → CountsFault (noted old (begun old at count ∷ []) (begun old at count)) faults.Disk given new → ¬ IsTrue new.is_stopped
    → new.state ≡ begun old at count
kept_unbegun old at count given new (counted is same) going = ap (λ (s : Seen). s.state) same
kept_unbegun old at count given new (stops full is has) going = absurd (going (ap (λ (s : Seen). s.is_stopped) has.rest))

pub Unasked-unbegun : (old : Seen) (at : ℕ) (over : List ℕ) (given : DeviceFault) (new : Seen) → old.is_stopped ≡ false
    → CountsFault (noted old (begun old at (length over) ∷ []) (begun old at (length over))) faults.Disk given new → IsUnasked old new
Unasked-unbegun old at over given new going fails =
    let wrote : WritesDisk old at over (Err given) new = WritesDisk-fails old at over given new going fails in
    record {
      goes = record {
        extends = Extends-by old new wrote.middle (Err given) wrote.call;
        kept = λ goes. subst (KeepsContents old.state) (sym (kept_unbegun old at (length over) given new fails goes))
            (KeepsContents-begun old at (length over));
      };
      halves = λ goes. ap (λ (s : State). s.halves) (kept_unbegun old at (length over) given new fails goes);
      why = inr (record { at = at; count = length over; given = given; fails = fails });
    }

-- ONE DATAGRAM

-- where the site doesn't stop after it
pub FollowsAfter-none : {D : Type 0} (follows : D → Seen → Type 0) (device : D) (torn : Option Pattern) (seen : Seen) → is_some torn ≡ false
    → FollowsAfter follows device torn seen → follows device seen
FollowsAfter-none follows device None seen none after = after
FollowsAfter-none follows device (Some pattern) seen none after = absurd cc

-- what the device was asked about the half, which then has taken the datagram
pub TakeKeeps-of : {D : Type 0} (follows : D → Seen → Type 0) (before mid after : D) (state : State) (items new : List (Option SlaveHalf)) (slave k : ℕ) (resting : Resting)
    (asked : SlaveHalf) (frame : List Pdu) (header : DatagramHeader) (buffer content reply : List ℕ) (added : ℕ) (torn : Option Pattern) → state.halves ≡ halves_of items
    → IsCopyOf frame k header buffer → content ≡ take header.count buffer → slice_get items slave ≡ Some (Some asked)
    → RestKeeps follows slave asked frame k before resting mid
    → HalfTakes items slave resting header.command header.address content reply added new → TakenKeeps follows mid torn after
    → TakeKeeps follows before state torn after (record state { halves = halves_of new })
TakeKeeps-of follows before mid after state items new slave k resting asked frame header buffer content reply added torn are is_header content_is there rests takes taken
    old middle running last followed =
    let later : State = record state { halves = halves_of new } in
    let d : Pdu = is_header.datagram in
    let here : slice_get state.halves slave ≡ Some takes.half =
    ap (λ (hs : List SlaveHalf). slice_get hs slave) are ∙ halves_of-get items slave takes.half takes.here in
    let one : asked ≡ takes.half = (let e : Some (Some asked) ≡ Some (Some takes.half) = sym there ∙ takes.here in cc) in
    let takes_it : takes.later ≡ (served_datagram takes.serves.mid d).half =
    sym (ap (λ (t : Outcome). t.half) (served_as takes.serves.mid frame k header buffer content is_header content_is ∙ takes.serves.takes)) in
    let is : later ≡ with_half state slave (served_datagram takes.serves.mid d).half =
    ap (λ (hs : List SlaveHalf). record state { halves = hs }) (ap halves_of takes.new_is ∙ halves_of-set items slave takes.later
    ∙ ap (λ (hs : List SlaveHalf). slice_set hs slave takes.later) (sym are))
    ∙ ap (with_half state slave) takes_it in
    taken (noted old (middle ++ later ∷ []) later)
    (subst (λ (h : SlaveHalf). RestKeeps follows slave h frame k before resting mid) one rests
    (noted old middle state) (noted old (middle ++ later ∷ []) later) takes.serves.mid d running here
    is_header.at takes.serves.said is (Extends-middle old middle state later last) followed)

-- a call that changes nothing
pub GoesOn-quiet : (old : Seen) → GoesOn old (noted old [] old.state)
GoesOn-quiet old =
    unchanged old (noted old [] old.state)
    (extends_with old (noted old [] old.state) (record { before = old.state; faults = old.faults; middle = [] }) refl refl (λ stopped. stopped))
    (λ going. refl)
