-- What real slaves are behind a device on a wire, and what a power cut leaves of the journal's file and of them at each moment.
use Rattle.std.specs.Prelude.{◌≡◌, ◌⊎◌, ℕ, ◌<◌, ◌≤◌, Bool, false, List, [], ◌∷◌, ◌++◌, length, take, Some, slice_get}
use Rattle.esc_model.specs.Orders.{station}
use Rattle.esc_model.specs.SlaveHalf.{SlaveHalf, MayLeave}
use Rattle.site_core.specs.Disk.{Disk, StopImage}
use Rattle.site_core.specs.State.{State, Seen, Pair, Leaves, clock}
use Rattle.site_shadow.specs.Following.{first_of, state_at, LeftTowards}
use Rattle.site_file.specs.declared.asking.LineFile.TheVariants.{Journal}
use Rattle.site_file.specs.declared.asking.Asked.{Asked}
use Rattle.site_file.specs.Asking.{HasLog}
use Rattle.site_file.specs.Files.{File, BecomesBy, MayBeLeft}
use Rattle.site_file.specs.Held.{of_file}
use Rattle.site_file.specs.AllFiles.{HoldsDisk}
use Rattle.site_wire.specs.After.{IsAfter}
use Rattle.site_wire.specs.Sent.{Exchanged, HasSent}
use Rattle.site_wire.specs.RealSlaves.{Lives, IsSoFar}
use Rattle.site_wire.specs.Following.{WireFollows}
use Rattle.site_wire.specs.declared.device.WireDevice.{WireDevice}

-- WHAT REAL SLAVES ARE

-- Where this was sent since a site began: a real slave at the station address of its place that was after its half then is after its half now,
-- if it could have answered so.
abbrev pub SlavesFollow : List Exchanged → (begun now : List SlaveHalf) → Type 0
SlavesFollow log begun now = (slave : ℕ) (first half real later : SlaveHalf) → slice_get begun slave ≡ Some first
    → slice_get now slave ≡ Some half → first.station ≡ station slave → IsAfter first real → Lives log real later → IsAfter half later

-- WHAT A POWER CUT LEAVES OF THEM

-- Where this was sent since a site began: of a real slave at the station address of its place that was after its half then, and could have answered
-- so, a power cut leaves what it may leave of its half in this state.
abbrev pub SlavesLeave : List Exchanged → (begun now : List SlaveHalf) → Type 0
SlavesLeave sent begun now = (slave : ℕ) (first half real later : SlaveHalf) (left : List ℕ) → slice_get begun slave ≡ Some first
    → slice_get now slave ≡ Some half → first.station ≡ station slave → IsAfter first real → Lives sent real later → MayLeave later left
    → MayLeave half left

-- What a power cut leaves of this state, it could have left of the site towards this time of its clock.
pub record IsTowards (seen : Seen) (state : State) : Type 0 where
  pub time : ℕ
  pub early : time ≤ clock seen
  pub left : (pair : Pair) → Leaves state pair → LeftTowards seen time pair

-- There is a state of the site, now or before, of which a power cut may leave what it leaves of all real slaves where this was sent.
pub record LeavesNoMore (sent : List Exchanged) (seen : Seen) : Type 0 where
  pub state : State
  pub towards : IsTowards seen state
  pub slaves : SlavesLeave sent (first_of seen).halves state.halves

-- That is so at each moment since the site began, also with a datagram under way.
abbrev pub CutsLeaveNoMore : List Exchanged → Seen → Type 0
CutsLeaveNoMore log seen = (part : List Exchanged) → IsSoFar log part → LeavesNoMore part seen

-- The slaves have followed the site behind a device on a wire: unless it or the site has stopped. At each moment, also of a stop and after it,
-- a power cut has left of them what it could have left of the site.
pub record SlavesFollowed {L F C : Type 0} (device : WireDevice L F C) (seen : Seen) : Type 0 where
  pub log : List Exchanged
  pub has : HasSent device.sender.log.all log
  pub follow : device.is_over ≡ false → seen.is_stopped ≡ false → SlavesFollow log (first_of seen).halves seen.state.halves
  pub cuts : CutsLeaveNoMore log seen

-- WHAT IT LEAVES OF THE FILE AND OF THEM

-- In a call of its site a device asks the journal's file this, and sends the slaves that; in no call both. The call is at an end at this time of the
-- site's clock.
pub record Doing : Type 0 where
  pub time : ℕ
  pub asked : List Asked
  pub sent : List Exchanged

-- what is asked and what is sent, in order
abbrev pub asked_by : List Doing → List Asked
asked_by [] = []
asked_by (one ∷ others) = one.asked ++ asked_by others

abbrev pub sent_by : List Doing → List Exchanged
sent_by [] = []
sent_by (one ∷ others) = one.sent ++ sent_by others

-- A power cut leaves these words of a real slave at the station address of its place that was after its half, and could have answered so to what was
-- sent.
pub record IsLeftOfSlave (log : List Exchanged) (begun : List SlaveHalf) (slave : ℕ) (left : List ℕ) : Type 0 where
  pub first : SlaveHalf
  pub here : slice_get begun slave ≡ Some first
  pub at : first.station ≡ station slave
  pub real : SlaveHalf
  pub later : SlaveHalf
  pub after : IsAfter first real
  pub lives : Lives log real later
  pub leaves : MayLeave later left

-- A power cut leaves these words of real slaves, one for each half of the site, each of which was after its half as the site began, and could have
-- answered so to what was sent.
pub record AreLeftOfSlaves (log : List Exchanged) (begun now : List SlaveHalf) (words : List (List ℕ)) : Type 0 where
  pub count : length words ≡ length now
  pub each : (slave : ℕ) (left : List ℕ) → slice_get words slave ≡ Some left → IsLeftOfSlave log begun slave left

-- A power cut leaves this image of a journal's file that held this disk, after these calls, in one of `now` or before or behind it.
pub record IsLeftOfJournal (before now : List Asked) (begun : Disk) (image : List ℕ) : Type 0 where
  pub file : File
  pub held : HoldsDisk begun file
  pub mid : File
  pub became : BecomesBy (of_file Journal before) file mid
  pub left : MayBeLeft (of_file Journal now) mid image

-- A power cut leaves this pair of the journal's file and of real slaves at the same moment: in `one`, or before or behind it, after what was done
-- before. File and slaves had this state as all that began. A datagram may be under way.
pub record IsCutIn (before : List Doing) (one : Doing) (begun : State) (pair : Pair) : Type 0 where
  pub journal : IsLeftOfJournal (asked_by before) one.asked begun.disk pair.disk
  pub part : List Exchanged
  pub so_far : IsSoFar one.sent part
  pub slaves : AreLeftOfSlaves (sent_by before ++ part) begun.halves begun.halves pair.words

-- Of real slaves where this was sent a power cut leaves what it may leave of as many halves.
pub record LeavesHalves (sent : List Exchanged) (begun now : List SlaveHalf) : Type 0 where
  pub count : length now ≡ length begun
  pub slaves : SlavesLeave sent begun now

-- In the call that ends at this time there is a state of the site of which a power cut may leave what it leaves of all real slaves where this was sent.
pub record LeavesSlaves (seen : Seen) (time : ℕ) (sent : List Exchanged) : Type 0 where
  pub state : State
  pub towards : (pair : Pair) → Leaves state pair → LeftTowards seen time pair
  pub halves : LeavesHalves sent (first_of seen).halves state.halves

-- The same, together with this image of the journal's file.
pub record LeavesAt (seen : Seen) (time : ℕ) (image : List ℕ) (sent : List Exchanged) : Type 0 where
  pub slaves : LeavesSlaves seen time sent
  pub disk : StopImage slaves.state.disk image

-- This is all that a device has done behind its site, in order, from the beginning on, in which nothing was done. At each moment of it, also at a stop,
-- a power cut leaves of the journal's file and of all real slaves together what it could have left of the site in the call that ends then.
pub record HasDone {L F C : Type 0} (device : WireDevice L F C) (seen : Seen) : Type 0 where
  pub all : List Doing
  pub asked : HasLog device.journal.asking.calls (asked_by all)
  pub sent : HasSent device.sender.log.all (sent_by all)
  pub early : (place : ℕ) (one : Doing) → slice_get all place ≡ Some one → one.time ≤ clock seen
  pub of_slaves : (place : ℕ) (one : Doing) (part : List Exchanged) → slice_get all place ≡ Some one → IsSoFar one.sent part
      → LeavesSlaves seen one.time (sent_by (take place all) ++ part)
  pub leaves : (place : ℕ) (one : Doing) (image : List ℕ) (part : List Exchanged) → slice_get all place ≡ Some one
      → IsLeftOfJournal (asked_by (take place all)) one.asked (first_of seen).disk image → IsSoFar one.sent part
      → LeavesAt seen one.time image (sent_by (take place all) ++ part)

-- At this time of the site's clock so many of these doings were at an end, and none of the others had begun.
pub record IsBetween (all : List Doing) (place time : ℕ) : Type 0 where
  pub inside : place ≤ length all
  pub earlier : (k : ℕ) (one : Doing) → k < place → slice_get all k ≡ Some one → one.time ≤ time
  pub later : (k : ℕ) (one : Doing) → place ≤ k → slice_get all k ≡ Some one → time < one.time

-- Between two calls, as long as device and site went on: a power cut left of real slaves what it may leave of their halves at that time.
abbrev pub LeavesBetween : (is_over : Bool) → List Doing → Seen → Type 0
LeavesBetween is_over all seen = (place time : ℕ) → IsBetween all place time → time ≤ clock seen
    → (place < length all) ⊎ ((is_over ≡ false) × (seen.is_stopped ≡ false))
    → LeavesHalves (sent_by (take place all)) (first_of seen).halves (state_at seen time).halves

-- THE LAWS

-- Real slaves follow the site of a device.
abbrev pub SlavesAreBehind : (L F C : Type 0) → Type 0
SlavesAreBehind L F C = (device : WireDevice L F C) (seen : Seen) → WireFollows device seen → SlavesFollowed device seen

-- What a device has done leaves no more than its site, in each call and between two.
abbrev pub LeavesTogether : (L F C : Type 0) → Type 0
LeavesTogether L F C = (device : WireDevice L F C) (seen : Seen) → WireFollows device seen → (done : HasDone device seen) × LeavesBetween device.is_over done.all seen

-- So a pair that a power cut leaves of file and slaves is one that it could have left of the site.
abbrev pub CutLeavesNoMore : (L F C : Type 0) → Type 0
CutLeavesNoMore L F C = (device : WireDevice L F C) (seen : Seen) (done : HasDone device seen) (place : ℕ) (one : Doing) (pair : Pair)
    → slice_get done.all place ≡ Some one → IsCutIn (take place done.all) one (first_of seen) pair → LeftTowards seen one.time pair
