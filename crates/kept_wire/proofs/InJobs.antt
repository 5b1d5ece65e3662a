-- What a power cut leaves of a real slave whose device is anywhere in the job that is out for it.
use Rattle.std.proofs.Common.{◌≡◌, ◌⊎◌, ◌∙◌, ℕ, zero, suc, ◌<◌, ◌≤◌, List, [], ◌∷◌, ◌++◌, length, drop, take, get_or, Any, Some, slice_get}
use Rattle.std.proofs.Common.{refl, sym, ap, subst, inl, inr, arith}
use Rattle.std.proofs.Math.Nat.{le_trans}
use Rattle.std.specs.Prelude.{unwrap_or}
use Rattle.std.specs.Option.{option_map}
use Rattle.std.proofs.lemmas.Option.{slice_get_within, slice_get-get_or}
use Rattle.esc_model.specs.SlaveHalf.{SlaveHalf, powered_up, MayLeave}
use Rattle.esc_model.proofs.Resting.{MayLeave-same}
use Rattle.site_core.specs.State.{State, Seen, Pair, Moment, Leaves, LeftAt, LeftSince, EachMayLeave, clock}
use Rattle.site_core.specs.Passes.{StaysWithin}
use Rattle.site_core.specs.Times.{Instant, instant_of, now_of, instant_at, Follows}
use Rattle.site_core.proofs.Moments.{Any-first, Any-later}
use Rattle.site_core.proofs.StopImages.{StopImage-same}
use Rattle.site_core.proofs.Times.{instant-stays, slice_get-early, Follows-same, Follows-then, Follows-clock}
use Rattle.site_shadow.specs.Following.{begin_of, first_of, state_at, LeftTowards}
use Rattle.site_wire.specs.Sent.{Exchanged}
use Rattle.site_wire.specs.Moments.{sent_by, SlavesLeave, IsLeftOfSlave}
use Rattle.book_model.specs.declared.next.RomNext.{RomNext}
use Rattle.book_model.specs.declared.next.RomNext.TheVariants as rom
use Rattle.book_model.specs.declared.next.RomOutcome.{RomOutcome}
use Rattle.station_jobs.specs.declared.log.Assignment.{Assignment}
use Rattle.station_jobs.specs.Jobs.{MayEnd}
use Rattle.station_jobs.specs.Left.{LeftInProgress}
use Rattle.station_jobs.specs.Working.{CallsSlave, LeftInCall}
use Rattle.desk_book.specs.declared.call.Call.{Call}
use Rattle.desk_book.specs.Logs.{rom_log}
use Rattle.kept_files.specs.Cuts.{IsAt, SlaveCut}
use Rattle.kept_wire.specs.Keeping.{SlaveOnWire, CutsSlave, in_call, at_rest, SlaveIsCut}

-- ONE SLAVE OF SEVERAL

-- The words of all slaves, with those of one as a power cut may leave them.
pub record LeftWith (halves : List SlaveHalf) (slave : ℕ) (left : List ℕ) : Type 0 where
  pub words : List (List ℕ)
  pub each : EachMayLeave halves words
  pub here : slice_get words slave ≡ Some left

left_same : (halves : List SlaveHalf) → (words : List (List ℕ)) × EachMayLeave halves words
left_same [] = ([], tt)
left_same (half ∷ halves) = let rest = left_same halves in (half.words ∷ rest.0, (MayLeave-same half, rest.1))

pub left_with : (halves : List SlaveHalf) (slave : ℕ) (half : SlaveHalf) (left : List ℕ) → slice_get halves slave ≡ Some half → MayLeave half left
    → LeftWith halves slave left
left_with [] slave half left here may = absurd cc
left_with (first ∷ halves) zero half left here may =
    let same : first ≡ half = cc in
    let rest = left_same halves in
    record { words = left ∷ rest.0; each = (subst (λ (h : SlaveHalf). MayLeave h left) (sym same) may, rest.1); here = refl }
left_with (first ∷ halves) (suc slave) half left here may =
    let rest = left_with halves slave half left here may in
    record { words = first.words ∷ rest.words; each = (MayLeave-same first, rest.each); here = rest.here }

-- SINCE A TIME

instant_by : (past : List Moment) (time : ℕ) (now : Instant) → begin_of (drop time past) now.state ≡ (unwrap_or (option_map instant_of (slice_get past time)) now).state
instant_by [] zero now = refl
instant_by [] (suc time) now = refl
instant_by (m ∷ past) zero now = refl
instant_by (m ∷ past) (suc time) now = instant_by past time now

-- the state at a time is that of the instant
state_is : (seen : Seen) (time : ℕ) → state_at seen time ≡ (instant_at seen time).state
state_is seen time = instant_by seen.past time (now_of seen)

state_then : (a b : Seen) → Follows a b → state_at b (clock a) ≡ a.state
state_then a b follows = state_is b (clock a) ∙ ap (λ (i : Instant). i.state) follows.goes_on

at_call : (past : List Moment) (from time : ℕ) (moment : Moment) (pair : Pair) → from ≤ time → slice_get past time ≡ Some moment → LeftAt pair moment
    → Any (LeftAt pair) (drop from past)
at_call [] from time moment pair early there left = absurd cc
at_call (m ∷ past) zero zero moment pair early there left =
    let same : m ≡ moment = cc in Any-first (LeftAt pair) m past (subst (LeftAt pair) (sym same) left)
at_call (m ∷ past) zero (suc time) moment pair early there left = Any-later (LeftAt pair) m past (at_call past zero time moment pair (omega arith) there left)
at_call (m ∷ past) (suc from) zero moment pair early there left = absurd (omega (arith, early))
at_call (m ∷ past) (suc from) (suc time) moment pair early there left = at_call past from time moment pair (omega (arith, early)) there left

at_state : (past : List Moment) (state : State) (from time : ℕ) (pair : Pair) → from ≤ time → Leaves (begin_of (drop time past) state) pair
    → Leaves state pair ⊎ Any (LeftAt pair) (drop from past)
at_state [] state from zero pair early leaves = inl leaves
at_state [] state from (suc time) pair early leaves = inl leaves
at_state (m ∷ past) state zero zero pair early leaves = inr (Any-first (LeftAt pair) m past (inl leaves))
at_state (m ∷ past) state zero (suc time) pair early leaves = elim (at_state past state zero time pair (omega arith) leaves) [
  | inl now ↦ inl now
  | inr was ↦ inr (Any-later (LeftAt pair) m past was)
]
at_state (m ∷ past) state (suc from) zero pair early leaves = absurd (omega (arith, early))
at_state (m ∷ past) state (suc from) (suc time) pair early leaves = at_state past state from time pair (omega (arith, early)) leaves

-- what a power cut could leave at first
since_first : (mid next : Seen) (pair : Pair) → Follows mid next → Leaves mid.state pair → LeftSince next (clock mid) pair
since_first mid next pair follows leaves =
    at_state next.past next.state (clock mid) (clock mid) pair (omega arith)
    (subst (λ (s : State). Leaves s pair) (sym (state_then mid next follows)) leaves)

-- what it could leave towards a time in between
since_towards : (mid next end : Seen) (time : ℕ) (pair : Pair) → Follows next end → clock mid < time → time ≤ clock next
    → LeftTowards end time pair → LeftSince next (clock mid) pair
since_towards mid next end zero pair on later within towards = absurd (omega (arith, later))
since_towards mid next end (suc time) pair on later within (inl (moment, there, left)) =
    let here : slice_get next.past time ≡ Some moment =
    sym (slice_get-early next.past on.calls time (omega (arith, within))) ∙ sym (ap (λ (p : List Moment). slice_get p time) on.past) ∙ there in
    inr (at_call next.past (clock mid) time moment pair (omega (arith, later)) here left)
since_towards mid next end (suc time) pair on later within (inr leaves) =
    let same : state_at end (suc time) ≡ state_at next (suc time) =
    state_is end (suc time) ∙ ap (λ (i : Instant). i.state) (instant-stays next end (suc time) on within) ∙ sym (state_is next (suc time)) in
    at_state next.past next.state (clock mid) (suc time) pair (omega (arith, later)) (subst (λ (s : State). Leaves s pair) same leaves)

-- A JOB

module _ (slave : ℕ) where
  call_stays : (job : RomNext) (outcome : RomOutcome) (old new : Seen) → CallsSlave slave job outcome old new → StaysWithin (LeftInCall slave job old.state) old new
  call_stays (rom.Issue word value) outcome old new calls = let i = calls.issues in i.stays
  call_stays (rom.Settle taken) outcome old new calls = let s = calls.settles in s.quiet.adds
  call_stays rom.Idle outcome old new calls = absurd calls
  call_stays rom.Stop outcome old new calls = absurd calls

  call_follows : (job : RomNext) (outcome : RomOutcome) (old new : Seen) → CallsSlave slave job outcome old new → Follows old new
  call_follows (rom.Issue word value) outcome old new calls = let i = calls.issues in i.follows
  call_follows (rom.Settle taken) outcome old new calls = let s = calls.settles in s.quiet.follows
  call_follows rom.Idle outcome old new calls = absurd calls
  call_follows rom.Stop outcome old new calls = absurd calls

  through_follows : (out : List (Assignment RomNext RomOutcome)) (mid next : Seen) → MayEnd (CallsSlave slave) out mid next → Follows mid next
  through_follows [] mid next same = subst (λ (s : Seen). Follows mid s) (sym same) (Follows-same mid)
  through_follows (entry ∷ []) mid next one = call_follows entry.job one.outcome mid next one.does
  through_follows (entry ∷ other ∷ out) mid next never = absurd never

  -- what could be left since the job began
  in_progress : (out : List (Assignment RomNext RomOutcome)) (mid next : Seen) (pair : Pair) → MayEnd (CallsSlave slave) out mid next
      → LeftSince next (clock mid) pair → (out ≡ [] → Leaves mid.state pair) → LeftInProgress (LeftInCall slave) out mid.state pair
  in_progress [] mid next pair same left rests = rests refl
  in_progress (entry ∷ []) mid next pair one left rests = let stays = call_stays entry.job one.outcome mid next one.does in stays.left pair left
  in_progress (entry ∷ other ∷ out) mid next pair never left rests = absurd never

  none_between : (out : List (Assignment RomNext RomOutcome)) (mid next : Seen) (time : ℕ) → MayEnd (CallsSlave slave) out mid next → clock mid < time
      → time ≤ clock next → out ≡ [] → ⊥
  none_between [] mid next time same later within none = omega (arith, later, within, ap clock same)
  none_between (entry ∷ out) mid next time one later within none = cc

-- A CUT IN IT

module _ (slave : ℕ) (start end : Seen) (part : SlaveOnWire start end) where
  -- a pair with these words of the slave
  pair_of : (sent : List Exchanged) (state : State) (words : List ℕ) → SlavesLeave sent (first_of end).halves state.halves
      → length state.halves ≡ length (first_of end).halves → IsLeftOfSlave sent start.state.halves slave words
      → (pair : Pair) × Leaves state pair × (slice_get pair.words slave ≡ Some words)
  pair_of sent state words leave count left =
      let at_first : slice_get (first_of end).halves slave ≡ Some left.first = ap (λ (s : State). slice_get s.halves slave) part.first ∙ left.here in
      let inside : slave < length state.halves = (let there = slice_get_within (first_of end).halves slave left.first at_first in omega (arith, there, count)) in
      let here = slice_get-get_or state.halves slave (powered_up [] 0) inside in
      let may = leave slave left.first (get_or state.halves slave (powered_up [] 0)) left.real left.later words at_first here left.at left.after left.lives left.leaves in
      let all = left_with state.halves slave (get_or state.halves slave (powered_up [] 0)) words here may in
      (record { disk = state.disk.bytes; words = all.words }, record { disk = StopImage-same state.disk; words = all.each }, all.here)

  module _ (calls : List Call) (words : List ℕ) (at : IsAt (CallsSlave slave) (rom_log slave calls) start) (on : Follows at.next end) where
    to_next : Follows at.mid at.next
    to_next = through_follows slave at.out at.mid at.next at.through

    abbrev Shown : Type 0
    Shown = (pair : Pair) × LeftInProgress (LeftInCall slave) at.out at.mid.state pair × (slice_get pair.words slave ≡ Some words)

    shown : CutsSlave part slave (clock at.mid) (clock at.next) words → Shown
    shown (in_call place one sent later within is so_far left) =
        let there = part.leaves place one sent is so_far in
        let pair = pair_of (sent_by (take place part.all) ++ sent) there.state words there.halves.slaves there.halves.count left in (
          pair.0,
          in_progress slave at.out at.mid at.next pair.0 at.through
              (since_towards at.mid at.next end one.time pair.0 on later within (there.towards pair.0 pair.1))
              (λ none. absurd (none_between slave at.out at.mid at.next one.time at.through later within none)),
          pair.2,
        )
    shown (at_rest place between alive left) =
        let within : clock at.mid ≤ clock end = le_trans (Follows-clock at.mid at.next to_next) (Follows-clock at.next end on) in
        let there = part.between place (clock at.mid) between within alive in
        let state : state_at end (clock at.mid) ≡ at.mid.state = state_then at.mid end (Follows-then at.mid at.next end to_next on) in
        let pair = pair_of (sent_by (take place part.all)) (state_at end (clock at.mid)) words there.slaves there.count left in
        let leaves : Leaves at.mid.state pair.0 = subst (λ (s : State). Leaves s pair.0) state pair.1 in
        (pair.0, in_progress slave at.out at.mid at.next pair.0 at.through (since_first at.mid at.next pair.0 to_next leaves) (λ none. leaves), pair.2)

  pub slave_is_cut : (calls : List Call) (half : SlaveHalf) (words : List ℕ) → slice_get start.state.halves slave ≡ Some half
      → SlaveIsCut part calls slave words → SlaveCut calls slave half words
  slave_is_cut calls half words here cut =
      let left = shown calls words cut.at cut.on cut.cut in
      record { start = start; began = here; at = cut.at; pair = left.0; left = left.1; is = left.2 }
