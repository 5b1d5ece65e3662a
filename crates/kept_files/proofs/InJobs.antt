-- What a power cut leaves of the files of a desk's parts.
use Rattle.std.proofs.Common.{◌≡◌, ◌⊎◌, ◌∙◌, ℕ, ◌+◌, ◌<◌, ◌≤◌, Bool, false, List, [], ◌∷◌, ◌++◌, length}
use Rattle.std.proofs.Common.{take, Some, slice_get, Result, IsTrue, refl, sym, ap, subst, inl, inr, arith, length-append}
use Rattle.std.proofs.lemmas.List.{take-append-le, take_all}
use Rattle.std.proofs.Math.Seq.{take-append_seam}
use Rattle.std.proofs.lemmas.Option.{slice_get_within}
use Rattle.std.proofs.lemmas.Bool.{eq-eqb}
use Rattle.site_core.specs.declared.fault.DeviceFault.{DeviceFault}
use Rattle.site_core.specs.State.{State, Seen, Pair, Leaves, LeftSince, clock}
use Rattle.site_core.specs.Passes.{StaysWithin}
use Rattle.site_core.specs.Times.{Follows}
use Rattle.site_core.proofs.Times.{Follows-same, Follows-then, Calls-follows, slice_get-early, slice_get-seam}
use Rattle.site_core.proofs.DeviceCalls.{WritesDisk-left, SyncsDisk-adds_nothing}
use Rattle.site_shadow.specs.Following.{state_at, LeftTowards}
use Rattle.site_file.specs.declared.asking.LineFile.{LineFile}
use Rattle.site_file.specs.declared.asking.LineFile.TheVariants.{Journal, Image}
use Rattle.site_file.specs.declared.files.FileDevice.{FileDevice}
use Rattle.site_file.specs.declared.asking.Asked.{Asked}
use Rattle.site_file.specs.Files.{File, IsBytes, BecomesBy}
use Rattle.site_file.specs.Held.{is_same, of_file}
use Rattle.site_file.specs.AllFiles.{AreLeftAfter, LeadTo, FilesFollow, Holds, ShowOne, calls_of}
use Rattle.site_file.proofs.FilesFollow.{left_at_first, calls_of-snoc, early_or_at}
use Rattle.book_model.specs.declared.next.DiskNext.{DiskNext}
use Rattle.book_model.specs.declared.next.DiskNext.TheVariants as disk
use Rattle.book_model.specs.declared.next.RomNext.{RomNext}
use Rattle.book_model.specs.declared.next.RomNext.TheVariants as rom
use Rattle.book_model.specs.declared.next.RomOutcome.{RomOutcome}
use Rattle.station_jobs.specs.declared.log.Assignment.{Assignment}
use Rattle.station_jobs.specs.Jobs.{MayEnd}
use Rattle.station_jobs.specs.Left.{LeftInProgress}
use Rattle.station_jobs.specs.Flushing.{DoesAction, LeftInAction}
use Rattle.station_jobs.specs.Working.{CallsSlave, LeftInCall}
use Rattle.kept_files.specs.Cuts.{IsAt, CutsLog, in_call, at_rest, JournalIsCut, ImageIsCut}
use Rattle.kept_files.proofs.Since.{state_then, since_first, since_towards}

-- A PIECE OF A LOG

module _ {F : Type 0} (owned : LineFile → Bool) (begun : LineFile → File) (device : FileDevice F) (end : Seen) (follows : FilesFollow 0 owned begun device end) where
  abbrev all : List (List Asked)
  all = follows.pieces ++ follows.last ∷ []

  -- of any piece, the last one too
  piece_leaves : (time : ℕ) (one : List Asked) (images : LineFile → List ℕ) → ((name : LineFile) → IsBytes (images name))
      → slice_get all time ≡ Some one → AreLeftAfter (calls_of (take time all)) one begun images
      → (time < length follows.pieces) ⊎ (time ≡ length follows.pieces) → ShowOne owned (LeftTowards end (0 + time)) images
  piece_leaves time one images bytes is left (inl early) =
      follows.leaves time one images bytes (sym (slice_get-early follows.pieces (follows.last ∷ []) time early) ∙ is)
      (subst (λ (l : List (List Asked)). AreLeftAfter (calls_of l) one begun images)
      (take-append-le time follows.pieces (follows.last ∷ []) (omega (arith, early))) left)
  piece_leaves time one images bytes is left (inr same) =
      let is_last : one ≡ follows.last = (let e : Some one ≡ Some follows.last =
      sym is ∙ ap (λ (n : ℕ). slice_get all n) same ∙ slice_get-seam follows.pieces (follows.last ∷ []) in cc) in
      let before : take time all ≡ follows.pieces = ap (λ (n : ℕ). take n all) same ∙ take-append_seam follows.pieces (follows.last ∷ []) in
      subst (λ (n : ℕ). ShowOne owned (LeftTowards end (0 + n)) images) (sym same)
      (follows.leaves_last images bytes (subst (λ (c : List Asked). AreLeftAfter (calls_of follows.pieces) c begun images) is_last
      (subst (λ (l : List (List Asked)). AreLeftAfter (calls_of l) one begun images) before left)))

  -- after the piece of a time the files hold the state at that time
  held_after : (time : ℕ) (files : LineFile → File)
      → (time < length follows.pieces) ⊎ ((device.has_failed ≡ false) × ¬ IsTrue end.is_stopped × (time ≡ length follows.pieces))
      → LeadTo (calls_of (take (time + 1) all)) begun files → (name : LineFile) → IsTrue (owned name) → Holds (state_at end time) name (files name)
  held_after time files (inl early) lead name is_owned =
      let plain : 0 + time ≡ time = omega arith in
      subst (λ (t : ℕ). Holds (state_at end t) name (files name)) plain (follows.held time files name early (subst (λ (l : List (List Asked)). LeadTo (calls_of l) begun files)
      (take-append-le (time + 1) follows.pieces (follows.last ∷ []) (omega (arith, early))) lead) is_owned)
  held_after time files (inr (sound, going, same)) lead name is_owned =
      let entire : take (time + 1) all ≡ all = take_all (time + 1) all (omega (arith, same, length-append follows.pieces (follows.last ∷ []))) in
      let calls : calls_of (take (time + 1) all) ≡ calls_of follows.pieces ++ follows.last = ap calls_of entire ∙ calls_of-snoc follows.pieces follows.last in
      let now : time ≡ clock end = omega (arith, same, follows.all sound going) in
      subst (λ (s : State). Holds s name (files name)) (sym (ap (λ (t : ℕ). state_at end t) now ∙ state_then end end (Follows-same end)))
      (follows.holds sound going name (files name) is_owned
      (subst (λ (l : List Asked). BecomesBy (of_file name l) (begun name) (files name)) calls (lead name)))

  last_or_early : (time : ℕ) → time < length all → (time < length follows.pieces) ⊎ (time ≡ length follows.pieces)
  last_or_early time within = early_or_at time (length follows.pieces) (omega (arith, within, length-append follows.pieces (follows.last ∷ [])))

-- A CUT IN A JOB

module _ {J O : Type 0} (Does : J → O → Seen → Seen → Type 0) (InProgress : J → State → Pair → Type 0)
    (job_stays : (job : J) (outcome : O) (old new : Seen) → Does job outcome old new → StaysWithin (InProgress job old.state) old new)
    (job_follows : (job : J) (outcome : O) (old new : Seen) → Does job outcome old new → Follows old new) where
  through_follows : (out : List (Assignment J O)) (mid next : Seen) → MayEnd Does out mid next → Follows mid next
  through_follows [] mid next same = subst (λ (s : Seen). Follows mid s) (sym same) (Follows-same mid)
  through_follows (entry ∷ []) mid next one = job_follows entry.job one.outcome mid next one.does
  through_follows (entry ∷ other ∷ out) mid next never = absurd never

  -- what could be left since the job began
  since_in_progress : (out : List (Assignment J O)) (mid next : Seen) (pair : Pair) → MayEnd Does out mid next → LeftSince next (clock mid) pair
      → (out ≡ [] → Leaves mid.state pair) → LeftInProgress InProgress out mid.state pair
  since_in_progress [] mid next pair same left rests = rests refl
  since_in_progress (entry ∷ []) mid next pair one left rests = let stays = job_stays entry.job one.outcome mid next one.does in stays.left pair left
  since_in_progress (entry ∷ other ∷ out) mid next pair never left rests = absurd never

  none_between : (out : List (Assignment J O)) (mid next : Seen) (time : ℕ) → MayEnd Does out mid next → clock mid < time → time ≤ clock next
      → out ≡ [] → ⊥
  none_between [] mid next time same later within none = omega (arith, later, within, ap clock same)
  none_between (entry ∷ out) mid next time one later within none = cc

  module _ {F : Type 0} (owned : LineFile → Bool) (log : List (Assignment J O)) (start end : Seen) (device : FileDevice F) (begun : LineFile → File)
      (images : LineFile → List ℕ) (at : IsAt Does log start) (follows : FilesFollow 0 owned begun device end) (on : Follows at.next end)
      (bytes : (name : LineFile) → IsBytes (images name)) where
    pub shown_in_progress : CutsLog follows (clock at.mid) (clock at.next) images → ShowOne owned (LeftInProgress InProgress at.out at.mid.state) images
    shown_in_progress (in_call time one later within is left) =
        let there : time < length (follows.pieces ++ follows.last ∷ []) = slice_get_within (follows.pieces ++ follows.last ∷ []) time one is in
        let shown = piece_leaves owned begun device end follows time one images bytes is left (last_or_early owned begun device end follows time there) in (
          shown.0,
          since_in_progress at.out at.mid at.next shown.0 at.through (since_towards at.mid at.next end (0 + time) shown.0 on (omega (arith, later)) (omega (arith, within)) shown.1)
              (λ none. absurd (none_between at.out at.mid at.next time at.through later within none)),
          shown.2,
        )
    shown_in_progress (at_rest sound left) =
        let to_next : Follows at.mid at.next = through_follows at.out at.mid at.next at.through in
        let state : state_at end (clock at.mid) ≡ at.mid.state = state_then at.mid end (Follows-then at.mid at.next end to_next on) in
        let shown = left_at_first (state_at end (clock at.mid)) owned left.mid
        (λ name is_owned. held_after owned begun device end follows (clock at.mid) left.mid sound left.lead name is_owned) images left.left in
        let leaves : Leaves at.mid.state shown.0 = subst (λ (s : State). Leaves s shown.0) state shown.1 in
        (shown.0, since_in_progress at.out at.mid at.next shown.0 at.through (since_first at.mid at.next shown.0 to_next leaves) (λ none. leaves), shown.2)

-- THE JOURNAL

action_stays : (action : DiskNext) (result : Result (Unit {0}) DeviceFault) (old new : Seen) → DoesAction action result old new → StaysWithin (LeftInAction action old.state) old new
action_stays (disk.Write at bytes) result old new does = WritesDisk-left old at bytes result new does.inside does.writes
action_stays (disk.Gate at closed) result old new does = WritesDisk-left old at _ result new does.inside does.writes
action_stays disk.Sync result old new does = SyncsDisk-adds_nothing old result new does
action_stays disk.Idle result old new does = absurd does
action_stays disk.Stop result old new does = absurd does

pub action_follows : (action : DiskNext) (result : Result (Unit {0}) DeviceFault) (old new : Seen) → DoesAction action result old new → Follows old new
action_follows (disk.Write at bytes) result old new does = Calls-follows old does.writes.middle result new does.writes.call
action_follows (disk.Gate at closed) result old new does = Calls-follows old does.writes.middle result new does.writes.call
action_follows disk.Sync result old new does = Calls-follows old [] result new does.call
action_follows disk.Idle result old new does = absurd does
action_follows disk.Stop result old new does = absurd does

pub journal_is_cut : (F : Type 0) → JournalIsCut F
journal_is_cut F calls start end device begun images at follows on bytes cut =
    let shown = shown_in_progress DoesAction LeftInAction action_stays action_follows (is_same Journal) _ start end device begun images at follows on bytes cut in
    record { start = start; began = refl; at = at; pair = shown.0; left = shown.1; is = sym (shown.2 Journal refl) }

-- THE IMAGE OF A SLAVE

call_stays : (slave : ℕ) (job : RomNext) (outcome : RomOutcome) (old new : Seen) → CallsSlave slave job outcome old new → StaysWithin (LeftInCall slave job old.state) old new
call_stays slave (rom.Issue word value) outcome old new calls = let i = calls.issues in i.stays
call_stays slave (rom.Settle taken) outcome old new calls = let s = calls.settles in s.quiet.adds
call_stays slave rom.Idle outcome old new calls = absurd calls
call_stays slave rom.Stop outcome old new calls = absurd calls

pub call_follows : (slave : ℕ) (job : RomNext) (outcome : RomOutcome) (old new : Seen) → CallsSlave slave job outcome old new → Follows old new
call_follows slave (rom.Issue word value) outcome old new calls = let i = calls.issues in i.follows
call_follows slave (rom.Settle taken) outcome old new calls = let s = calls.settles in s.quiet.follows
call_follows slave rom.Idle outcome old new calls = absurd calls
call_follows slave rom.Stop outcome old new calls = absurd calls

pub image_is_cut : (F : Type 0) → ImageIsCut F
image_is_cut F calls slave half start end device begun images at follows on here bytes cut =
    let shown = shown_in_progress (CallsSlave slave) (LeftInCall slave) (call_stays slave) (call_follows slave) (is_same (Image slave)) _ start end device begun images at follows
    on bytes cut in
    let words = shown.2 (Image slave) (eq-eqb slave slave refl) in
    (words.0, words.2, record { start = start; began = here; at = at; pair = shown.0; left = shown.1; is = words.1 })
