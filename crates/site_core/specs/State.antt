-- The disk and the EEPROM halves of all slaves together, what a power cut may leave of them, and the history of device calls.
use Rattle.std.specs.Prelude.{◌≡◌, ◌⊎◌, ℕ, Bool, List, [], ◌∷◌, length, map, drop, Any, Result, Some, slice_get, slice_set, unwrap_or}
use Rattle.std.specs.Option.{option_map}
use Rattle.ecat_frame.specs.Frame.{Pdu}
use Rattle.esc_model.specs.SlaveHalf.{SlaveHalf, MayLeave, MayStop}
use Rattle.site_core.specs.declared.fault.DeviceFault.{DeviceFault}
use Rattle.site_core.specs.Disk.{Disk, StopImage, DiskStopped}

-- A slave whose half isn't owned has no words here, and a disk that isn't owned is `no_disk`.
pub record State : Type 0 where
  pub disk : Disk
  pub halves : List SlaveHalf

-- the state with another half for this slave
abbrev pub with_half : State → ℕ → SlaveHalf → State
with_half state slave half = record state { halves = slice_set state.halves slave half }

-- Only the half of this slave changes, and `R` relates it before and after.
pub record HalfGoes (R : SlaveHalf → SlaveHalf → Type 0) (old : State) (slave : ℕ) (new : State) : Type 0 where
  pub half : SlaveHalf
  pub here : slice_get old.halves slave ≡ Some half
  pub later : SlaveHalf
  pub new_is : new ≡ with_half old slave later
  pub goes : R half later

-- the number of words of each half
abbrev pub word_counts : List SlaveHalf → List ℕ
word_counts halves = map (λ half. length half.words) halves

-- What a power cut leaves: the bytes of the disk, and the words of each slave.
pub record Pair : Type 0 where
  pub disk : List ℕ
  pub words : List (List ℕ)

-- A power cut may leave these words, half by half.
abbrev pub EachMayLeave : List SlaveHalf → List (List ℕ) → Type 0
EachMayLeave [] [] = Unit {0}
EachMayLeave (half ∷ halves) (words ∷ others) = MayLeave half words × EachMayLeave halves others
EachMayLeave [] (words ∷ others) = ⊥
EachMayLeave (half ∷ halves) [] = ⊥

-- A power cut in this state may leave this pair.
pub record Leaves (state : State) (pair : Pair) : Type 0 where
  pub disk : StopImage state.disk pair.disk
  pub words : EachMayLeave state.halves pair.words

-- A power cut may turn each half of the first list into that of the second.
abbrev pub EachMayStop : List SlaveHalf → List SlaveHalf → Type 0
EachMayStop [] [] = Unit {0}
EachMayStop (half ∷ halves) (later ∷ others) = MayStop half later × EachMayStop halves others
EachMayStop [] (later ∷ others) = ⊥
EachMayStop (half ∷ halves) [] = ⊥

-- A power cut in the old state may lead to the new one.
pub record Stopped (old new : State) : Type 0 where
  pub disk : DiskStopped old.disk new.disk
  pub halves : EachMayStop old.halves new.halves

-- One past device call: the state before it, the number of faults by then, and the states in its middle, in order.
pub record Moment : Type 0 where
  pub before : State
  pub faults : ℕ
  pub middle : List State

-- the last of these states, or the first argument if there are none
abbrev pub last_of : State → List State → State
last_of state [] = state
last_of state (next ∷ states) = last_of next states

-- A frame that was sent by `cycle`, and what came back.
pub record CycleTurn : Type 0 where
  pub sent : List Pdu
  pub answer : Result (List Pdu) DeviceFault

-- All that contracts see of a site: its state, each device call so far, the number of faults, whether it has stopped, and the frames
-- that were sent through the process halves.
pub record Seen : Type 0 where
  pub state : State
  pub past : List Moment
  pub faults : ℕ
  pub is_stopped : Bool
  pub turns : List CycleTurn

-- the clock: the number of device calls so far
abbrev pub clock : Seen → ℕ
clock seen = length seen.past

-- A power cut just before this call, or in its middle, could have left the pair.
abbrev pub LeftAt : Pair → Moment → Type 0
LeftAt pair moment = Leaves moment.before pair ⊎ Any (λ state. Leaves state pair) moment.middle

-- A power cut now, or at some point since this time, also in the middle of a call, could have left the pair.
abbrev pub LeftSince : Seen → ℕ → Pair → Type 0
LeftSince seen time pair = Leaves seen.state pair ⊎ Any (LeftAt pair) (drop time seen.past)

-- the number of words of a slave's half, 0 if there is no such half
abbrev pub words_held : Seen → ℕ → ℕ
words_held seen slave = unwrap_or (option_map (λ half. length half.words) (slice_get seen.state.halves slave)) 0
