-- Real slaves follow the site of a device on a wire, step by step.
use Rattle.std.proofs.Common.{◌≡◌, ◌≢◌, ◌⊎◌, ℕ, zero, suc, ◌<◌, Bool, true, false, List, [], ◌∷◌, ◌++◌}
use Rattle.std.proofs.Common.{length, slice_get, slice_set, slice_index, eqb, Some, IsTrue, refl, sym, ap, subst, ◌∙◌, inl, inr, arith}
use Rattle.std.specs.List.{All}
use Rattle.std.proofs.Math.Nat.{le_trans}
use Rattle.std.proofs.lemmas.Bool.Decides.{eqb_tells, leb_tells}
use Rattle.std.proofs.lemmas.List.{get_or_past}
use Rattle.std.proofs.lemmas.List.Elements.{All-get_or}
use Rattle.ecat_frame.specs.Frame.{Pdu}
use Rattle.esc_model.specs.Orders.{station}
use Rattle.esc_model.specs.Bytes.{station_of}
use Rattle.esc_model.specs.SlaveHalf.{SlaveHalf, is_busy, MayLeave}
use Rattle.esc_model.proofs.Status.{idle_not_busy}
use Rattle.esc_model.specs.Datagrams.{served_datagram}
use Rattle.site_core.specs.State.{State, Seen, Pair, Leaves, Moment, with_half, clock}
use Rattle.site_shadow.specs.Following.{begin_of, first_of, LeftTowards, Extends}
use Rattle.site_shadow.specs.declared.device.Resting.{Resting}
use Rattle.site_shadow.specs.Resting.{RestsAs}
use Rattle.site_shadow.proofs.Keeping.{Extends-by}
use Rattle.site_shadow.proofs.Towards.{now_left, Extends-now, Extends-first, Extends-clock, Extends-towards}
use Rattle.site_shadow.proofs.GoingThrough.{get-set}
use Rattle.site_file.specs.declared.files.FileDevice.{FileDevice}
use Rattle.site_wire.specs.After.{IsAfter}
use Rattle.site_wire.specs.Journal as journal
use Rattle.site_wire.specs.Journal.{JournalStep}
use Rattle.site_wire.specs.Following as wire
use Rattle.site_wire.specs.Following.{SendsNothing, SendsFirst, IsDueTo, Carries, SendsFrame, KeepsHalves, Carried, Step, Run, HasFollowed, Refuses, WireFollows}
use Rattle.site_wire.specs.Moments.{SlavesFollow, SlavesLeave, LeavesNoMore, CutsLeaveNoMore, SlavesFollowed, SlavesAreBehind}
use Rattle.site_wire.specs.declared.device.WireDevice.{WireDevice}
use Rattle.site_wire.specs.Sent.{Exchanged, exchanges}
use Rattle.site_wire.specs.RealSlaves.{Lives, ends, IsSoFar}
use Rattle.site_wire.proofs.AmendedLaws.{amended_leaves_no_more}
use Rattle.site_wire.proofs.Taking.{true_or_false}
use Rattle.site_wire.proofs.Living.{Between, lives_parts, lives_station, lives_untouched, Parts, early, late, so_far_parts, so_far_none, so_far_all}
use Rattle.site_wire.proofs.Carrying.{untouched, carries_after}
use Rattle.site_wire.proofs.Cuts.{busy_leaves, idle_rests, carried_leaves}
use Rattle.site_wire.proofs.Sends.{nothing_sent}

-- NOTHING IS SENT

-- what a power cut has left stays so
leaves_on : (old new : Seen) (sent : List Exchanged) → Extends old new → LeavesNoMore sent old → LeavesNoMore sent new
leaves_on old new sent extends leaves = record {
  state = leaves.state;
  towards = record {
    time = leaves.towards.time;
    early = le_trans leaves.towards.early (Extends-clock old new extends);
    left = λ pair left. Extends-towards old new leaves.towards.time pair extends leaves.towards.early (leaves.towards.left pair left);
  };
  slaves = subst (λ (begun : State). SlavesLeave sent begun.halves leaves.state.halves) (sym (Extends-first old new extends)) leaves.slaves;
}

-- A site that goes on had not stopped before.
pub ran_before : (old new : Seen) → Extends old new → new.is_stopped ≡ false → old.is_stopped ≡ false
ran_before old new extends running = by old.is_stopped refl
  where
    by : (b : Bool) → old.is_stopped ≡ b → old.is_stopped ≡ false
    by false is = is
    by true is = absurd (let e : true ≡ false = sym (extends.stopped is) ∙ running in cc)

pub runs_on : (seen : Seen) → seen.is_stopped ≡ false → ¬ IsTrue seen.is_stopped
runs_on seen running stopped = let e : true ≡ false = sym stopped ∙ running in cc

module _ {L F C : Type 0} where
  -- a step in which nothing is sent and no half changes
  still_follows : (old new : Seen) (before after : WireDevice L F C) → Extends old new → KeepsHalves old new → SendsNothing before after
      → SlavesFollowed before old → SlavesFollowed after new
  still_follows old new before after extends same nothing follows = record {
    log = follows.log;
    has = ap exchanges nothing.sent ∙ follows.has;
    follow = λ going running.
        subst (λ (halves : List SlaveHalf). SlavesFollow follows.log (first_of new).halves halves) (sym (same (runs_on new running)))
        (subst (λ (begun : State). SlavesFollow follows.log begun.halves old.state.halves) (sym (Extends-first old new extends))
        (follows.follow (nothing.over going) (ran_before old new extends running)));
    cuts = λ part so_far. leaves_on old new part extends (follows.cuts part so_far);
  }

-- A REAL SLAVE FROM THE BEGINNING

pub begins_to_follow : (state : State) → SlavesFollow [] state.halves state.halves
begins_to_follow state slave first half real later at_first at_now station_is afterwards (ends _) =
    let same : first ≡ half = (let e : Some first ≡ Some half = sym at_first ∙ at_now in cc) in
    subst (λ (h : SlaveHalf). IsAfter h real) same afterwards

-- nothing was sent yet
begins_to_leave : (seen : Seen) → CutsLeaveNoMore [] seen
begins_to_leave seen part so_far = subst (λ (sent : List Exchanged). LeavesNoMore sent seen) (sym (so_far_none part so_far)) (record {
  state = first_of seen;
  towards = record { time = 0; early = omega arith; left = λ pair leaves. leaves };
  slaves = λ slave first half real later left at_first at_now station_is afterwards lives leaves.
      amended_leaves_no_more half later left
      (begins_to_follow (first_of seen) slave first half real later at_first at_now station_is afterwards lives).amended leaves;
})

pub slaves_begin : {L F C : Type 0} (device : WireDevice L F C) (seen : Seen) → device.sender.log.all ≡ [] → (device.is_over ≡ false → seen.past ≡ [])
    → SlavesFollowed device seen
slaves_begin device seen none new = record {
  log = [];
  has = ap exchanges none ∙ nothing_sent;
  follow = λ going running.
      subst (λ (begun : State). SlavesFollow [] begun.halves seen.state.halves) (sym (begun_first (new going))) (begins_to_follow seen.state);
  cuts = begins_to_leave seen;
}
  where
    begun_first : seen.past ≡ [] → first_of seen ≡ seen.state
    begun_first new = ap (λ (past : List Moment). begin_of past seen.state) new

-- ONE DATAGRAM

-- a byte of the content, or 0 after it
bytes_below : (content : List ℕ) → All (λ (byte : ℕ). byte < 256) content → (k : ℕ) → slice_index content k < 256
bytes_below content all k = elim (leb_tells (length content) k) [
  | inl past ↦ subst (λ (n : ℕ). n < 256) (sym (get_or_past content k 0 past.1)) (omega arith)
  | inr inside ↦ All-get_or (λ (byte : ℕ). byte < 256) content k 0 inside.1 all
]

-- the half of another slave
pub get_other : (halves : List SlaveHalf) (slave other : ℕ) (half : SlaveHalf) → other ≢ slave → slice_get (slice_set halves slave half) other ≡ slice_get halves other
get_other [] slave other half separate = refl
get_other (h ∷ hs) zero zero half separate = absurd (separate refl)
get_other (h ∷ hs) zero (suc other) half separate = refl
get_other (h ∷ hs) (suc slave) zero half separate = refl
get_other (h ∷ hs) (suc slave) (suc other) half separate = get_other hs slave other half (λ same. separate (ap suc same))

-- the datagram of a frame of one
only_datagram : (frame : List Pdu) (k : ℕ) (d e : Pdu) → frame ≡ e ∷ [] → slice_get frame k ≡ Some d → e ≡ d
only_datagram frame k d e one at = by k (ap (λ (f : List Pdu). slice_get f k) (sym one) ∙ at)
  where
    by : (k : ℕ) → slice_get (e ∷ []) k ≡ Some d → e ≡ d
    by zero is = cc
    by (suc k) is = absurd cc

-- WHAT A POWER CUT LEAVES

-- What is sent for a datagram, since the slaves have followed the site.
module _ (slave : ℕ) (half : SlaveHalf) (frame : List Pdu) (k : ℕ) (calls : List Exchanged) (result : Resting)
    (to : All (λ (call : Exchanged). station_of call.sent.address ≡ station slave) calls)
    (due : (calls ≡ []) ⊎ ((e : Pdu) × IsDueTo slave half frame e × SendsFirst slave half e calls))
    (old new : Seen) (rested : SlaveHalf) (d : Pdu) (here : slice_get old.state.halves slave ≡ Some half) (at : slice_get frame k ≡ Some d)
    (so : RestsAs result half rested) (state : new.state ≡ with_half old.state slave (served_datagram rested d).half) (extends : Extends old new)
    (log : List Exchanged) (followed : SlavesFollow log (first_of old).halves old.state.halves) where
  -- what is left of this slave, by its half among these, where those of the others are as before
  module _ (more : List Exchanged) (so_far : IsSoFar calls more) (now : List SlaveHalf)
      (others : (other : ℕ) → other ≢ slave → slice_get now other ≡ slice_get old.state.halves other)
      (own : (its mid later : SlaveHalf) (left : List ℕ) → slice_get now slave ≡ Some its → mid.station ≡ station slave → IsAfter half mid → Lives more mid later
      → MayLeave later left → MayLeave its left) where
    all_leave : SlavesLeave (log ++ more) (first_of old).halves now
    all_leave other first its real later left at_first at_now station_is afterwards lives leaves = by (eqb_tells other slave)
      where
        parts : Between log more real later
        parts = lives_parts log more real later lives

        near : parts.mid.station ≡ station other
        near = lives_station log real parts.mid parts.before ∙ afterwards.amended.station ∙ station_is

        by : ((eqb other slave ≡ true) × (other ≡ slave)) ⊎ ((eqb other slave ≡ false) × (other ≢ slave)) → MayLeave its left
        by (inl same) =
            own its parts.mid later left (ap (slice_get now) (sym same.1) ∙ at_now) (near ∙ ap station same.1)
            (followed other first half real parts.mid at_first (ap (slice_get old.state.halves) same.1 ∙ here) station_is afterwards parts.before)
            parts.afterwards leaves
        by (inr separate) =
            let near_by = so_far_all (λ (call : Exchanged). station_of call.sent.address ≡ station slave) (λ call is. is) calls more so_far to in
            let untouched : later ≡ parts.mid =
            lives_untouched more (station slave) parts.mid later near_by (λ e. separate.1 (let f : station slave ≡ station other = e ∙ near in omega arith))
            parts.afterwards in
            let was = followed other first its real parts.mid at_first (sym (others other separate.1) ∙ at_now) station_is afterwards parts.before in
            amended_leaves_no_more its later left (subst (IsAfter its) (sym untouched) was).amended leaves

  before_it : (more : List Exchanged) → IsSoFar calls more
      → ((mid later : SlaveHalf) (left : List ℕ) → mid.station ≡ station slave → IsAfter half mid → Lives more mid later → MayLeave later left → MayLeave half left)
      → SlavesLeave (log ++ more) (first_of old).halves old.state.halves
  before_it more so_far own =
      all_leave more so_far old.state.halves (λ other separate. refl) (λ its mid later left at_now near is lives leaves.
      let same : half ≡ its = (let e : Some half ≡ Some its = sym here ∙ at_now in cc) in
      subst (λ (h : SlaveHalf). MayLeave h left) same (own mid later left near is lives leaves))

  after_it : (more : List Exchanged) → IsSoFar calls more
      → ((mid later : SlaveHalf) (left : List ℕ) → mid.station ≡ station slave → IsAfter half mid → Lives more mid later → MayLeave later left
      → MayLeave (served_datagram rested d).half left)
      → SlavesLeave (log ++ more) (first_of old).halves new.state.halves
  after_it more so_far own =
      all_leave more so_far new.state.halves
      (λ other separate. ap (λ (s : State). slice_get s.halves other) state
      ∙ get_other old.state.halves slave other (served_datagram rested d).half separate)
      (λ its mid later left at_now near is lives leaves.
      let same : (served_datagram rested d).half ≡ its =
      (let e : Some (served_datagram rested d).half ≡ Some its =
      sym (get-set old.state.halves slave half (served_datagram rested d).half here) ∙ ap (λ (s : State). slice_get s.halves slave) (sym state) ∙ at_now in cc) in
      subst (λ (h : SlaveHalf). MayLeave h left) same (own mid later left near is lives leaves))

  -- of the halves before the datagram, or of those after it
  pub while_sent : (more : List Exchanged) → IsSoFar calls more
      → SlavesLeave (log ++ more) (first_of old).halves old.state.halves ⊎ SlavesLeave (log ++ more) (first_of old).halves new.state.halves
  while_sent more so_far = by due
    where
      by : (calls ≡ []) ⊎ ((e : Pdu) × IsDueTo slave half frame e × SendsFirst slave half e calls) → SlavesLeave (log ++ more) (first_of old).halves old.state.halves ⊎ SlavesLeave (log ++ more) (first_of old).halves new.state.halves
      by (inl none) =
          let nothing : more ≡ [] = so_far_none more (subst (λ (l : List Exchanged). IsSoFar l more) none so_far) in
          inl (before_it more so_far (λ mid later left near is lives leaves.
          let same : later ≡ mid = untouched mid later (subst (λ (l : List Exchanged). Lives l mid later) nothing lives) in
          amended_leaves_no_more half later left (subst (IsAfter half) (sym same) is).amended leaves))
      by (inr sent) = elim (true_or_false (is_busy half.activity)) [
        | inl busy ↦ inl (before_it more so_far (λ mid later left near is lives leaves. busy_leaves half sent.0 left busy (carried mid later left near is lives leaves)))
        | inr vacant ↦
            let same : rested ≡ half = idle_rests result half rested (idle_not_busy half.activity vacant) so in
            inr (after_it more so_far (λ mid later left near is lives leaves.
            subst (λ (h : SlaveHalf). MayLeave (served_datagram h d).half left) (sym same)
            (subst (λ (e : Pdu). MayLeave (served_datagram half e).half left) (only_datagram frame k d sent.0 sent.1.one at) (carried mid later left near is lives leaves))))
      ]
        where
          carried : (mid later : SlaveHalf) (left : List ℕ) → mid.station ≡ station slave → IsAfter half mid → Lives more mid later → MayLeave later left
              → MayLeave (served_datagram half sent.0).half left
          carried mid later left near is lives leaves =
              carried_leaves slave half sent.0 sent.1.fits (bytes_below sent.0.content sent.1.bytes) sent.1.to mid near is calls more sent.2 so_far later left lives leaves

  -- in one of these two states
  in_state : (sent : List Exchanged) (one : State) → ((pair : Pair) → Leaves one pair → LeftTowards new (clock new) pair)
      → SlavesLeave sent (first_of old).halves one.halves → LeavesNoMore sent new
  in_state sent one left slaves = record {
    state = one;
    towards = record { time = clock new; early = omega arith; left = left };
    slaves = subst (λ (begun : State). SlavesLeave sent begun.halves one.halves) (sym (Extends-first old new extends)) slaves;
  }

  pub carried_cuts : CutsLeaveNoMore log old → CutsLeaveNoMore (log ++ calls) new
  carried_cuts cuts part so_far = by (so_far_parts log calls part so_far)
    where
      by : Parts log calls part → LeavesNoMore part new
      by (early is) = leaves_on old new part extends (cuts part is)
      by (late more same is) = subst (λ (sent : List Exchanged). LeavesNoMore sent new) (sym same) (elim (while_sent more is) [
        | inl before ↦ in_state (log ++ more) old.state (λ pair leaves. Extends-now old new pair extends leaves) before
        | inr later ↦ in_state (log ++ more) new.state (λ pair leaves. now_left new (clock new) pair refl leaves) later
      ])

  -- where the device goes on, they follow the halves after it
  module _ (e : Pdu) (is_due : IsDueTo slave half frame e) (carries : Carries slave half e calls result) where
    -- the slave to which it goes
    this_slave : (later mid : SlaveHalf) → mid.station ≡ station slave → IsAfter half mid → Lives calls mid later → IsAfter (served_datagram rested d).half later
    this_slave later mid near afterwards lives =
        subst (λ (x : Pdu). IsAfter (served_datagram rested x).half later) (only_datagram frame k d e is_due.one at)
        (carries_after slave half e is_due.fits (bytes_below e.content is_due.bytes) is_due.to rested mid later near afterwards calls result carries so lives)

    pub follow_on : SlavesFollow (log ++ calls) (first_of old).halves new.state.halves
    follow_on other first now real later at_first at_now station_is afterwards lives = by (eqb_tells other slave)
      where
        parts : Between log calls real later
        parts = lives_parts log calls real later lives

        near : parts.mid.station ≡ station other
        near = lives_station log real parts.mid parts.before ∙ afterwards.amended.station ∙ station_is

        now_is : slice_get (slice_set old.state.halves slave (served_datagram rested d).half) other ≡ Some now
        now_is = ap (λ (s : State). slice_get s.halves other) (sym state) ∙ at_now

        by : ((eqb other slave ≡ true) × (other ≡ slave)) ⊎ ((eqb other slave ≡ false) × (other ≢ slave)) → IsAfter now later
        by (inl same) =
            let it : (served_datagram rested d).half ≡ now =
            (let e : Some (served_datagram rested d).half ≡ Some now =
            sym (get-set old.state.halves slave half (served_datagram rested d).half here) ∙ ap (slice_get (slice_set old.state.halves slave (served_datagram rested d).half)) (sym same.1) ∙ now_is in cc) in
            subst (λ (h : SlaveHalf). IsAfter h later) it
            (this_slave later parts.mid (near ∙ ap station same.1)
            (followed other first half real parts.mid at_first (ap (slice_get old.state.halves) same.1 ∙ here) station_is afterwards parts.before) parts.afterwards)
        by (inr separate) =
            let untouched : later ≡ parts.mid =
            lives_untouched calls (station slave) parts.mid later to (λ e. separate.1 (let f : station slave ≡ station other = e ∙ near in omega arith)) parts.afterwards in
            subst (IsAfter now) (sym untouched)
            (followed other first now real parts.mid at_first (sym (get_other old.state.halves slave other (served_datagram rested d).half separate.1) ∙ now_is) station_is afterwards parts.before)

-- STEPS

pub step_extends : {F : Type 0} (old new : Seen) (d after : FileDevice F) → JournalStep old d new after → Extends old new
step_extends old new d after (journal.goes_on goes quiet) = goes.extends
step_extends old new d after (journal.write at bytes passing given running inside wrote reported calls) = Extends-by old new wrote.middle given wrote.call
step_extends old new d after (journal.sync passing given running synced reported calls) = Extends-by old new [] given synced.call

module _ {L F C : Type 0} where
  carried_follows : (old new : Seen) (before after : WireDevice L F C) (one : Carried old before new after)
      → SendsFrame one.slave one.half one.frame one.result before after → SlavesFollowed before old → SlavesFollowed after new
  carried_follows old new before after one (wire.was_over over same) follows = record {
    log = follows.log;
    has = ap (λ (d : WireDevice L F C). exchanges d.sender.log.all) same ∙ follows.has;
    follow = λ going running. absurd (let e : true ≡ false = sym over ∙ sym (ap (λ (d : WireDevice L F C). d.is_over) same) ∙ going in cc);
    cuts = λ part so_far. leaves_on old new part one.extends (follows.cuts part so_far);
  }
  carried_follows old new before after one (wire.goes was_going sound carried) follows =
      let followed = follows.follow was_going one.running in
      record {
        log = follows.log ++ carried.calls;
        has = carried.sends.goes_on ∙ ap (λ (log : List Exchanged). log ++ carried.calls) follows.has;
        follow = λ going running.
            let due = carried.carries going in
            subst (λ (begun : State). SlavesFollow (follows.log ++ carried.calls) begun.halves new.state.halves) (sym (Extends-first old new one.extends))
            (follow_on one.slave one.half one.frame one.k carried.calls one.result carried.to carried.first old new one.rested one.d one.here one.at one.rests one.new_is
            one.extends follows.log followed due.0 due.1 due.2);
        cuts = carried_cuts one.slave one.half one.frame one.k carried.calls one.result carried.to carried.first old new one.rested one.d one.here one.at one.rests
            one.new_is one.extends follows.log followed follows.cuts;
      }

  slaves_step : (old new : Seen) (before after : WireDevice L F C) → Step old before new after → SlavesFollowed before old → SlavesFollowed after new
  slaves_step old new before after (wire.idles goes halves same nothing) follows = still_follows old new before after goes.extends halves nothing follows
  slaves_step old new before after (wire.asks running step halves nothing) follows =
      still_follows old new before after (step_extends old new before.journal after.journal step) halves nothing follows
  slaves_step old new before after (wire.carried one) follows = carried_follows old new before after one one.sends follows

  slaves_run : (old : Seen) (d : WireDevice L F C) (new : Seen) (after : WireDevice L F C) → Run old d new after → SlavesFollowed d old → SlavesFollowed after new
  slaves_run old d new after wire.none follows = follows
  slaves_run old d new after (wire.more mid last half_way end so_far one) follows =
      slaves_step mid last half_way end one (slaves_run old d mid half_way so_far follows)

  pub slaves_followed : (device : WireDevice L F C) (seen : Seen) → HasFollowed device seen → SlavesFollowed device seen
  slaves_followed device seen so_far =
      slaves_run so_far.first so_far.began seen device so_far.run (slaves_begin so_far.began so_far.first so_far.unsent (λ going. so_far.new))

pub slaves_are_behind : (L F C : Type 0) → SlavesAreBehind L F C
slaves_are_behind L F C device seen follows = by follows.follows
  where
    by : HasFollowed device seen ⊎ Refuses device → SlavesFollowed device seen
    by (inl so_far) = slaves_followed device seen so_far
    by (inr refuses) = slaves_begin device seen refuses.unsent (λ going. absurd (let e : true ≡ false = sym refuses.over ∙ going in cc))
