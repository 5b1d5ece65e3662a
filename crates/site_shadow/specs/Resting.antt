-- How an EEPROM half in memory becomes idle before a datagram, as the device says.
use Rattle.std.specs.Prelude.{◌≡◌, ℕ, Bool, true, false, List, slice_index}
use Rattle.ecat_frame.specs.declared.Command.{Command}
use Rattle.esc_model.specs.declared.rest.Rest.{Rest}
use Rattle.esc_model.specs.declared.rest.Rest.TheVariants as rests
use Rattle.esc_model.specs.SlaveHalf.{SlaveHalf, Activity, Idle, Reading, Writing, Outcome, MayRest, ended, reading_ended, rested_by, served}
use Rattle.site_shadow.specs.declared.device.Resting.{Resting}
use Rattle.site_shadow.specs.declared.device.Resting.TheVariants.{InTime, Stays, Well, Failed, FailedWith}

-- What the half is doing ends: a word in flight in this way, a read in error or not. One that is idle stays as it is.
abbrev pub Ends : Activity → Rest → (failed : Bool) → SlaveHalf → SlaveHalf → Type 0
Ends Idle rest failed half later = later ≡ half
Ends Reading rest failed half later = later ≡ reading_ended Reading failed half
Ends (Writing word value) rest failed half later = later ≡ ended rest half word value

-- the way in which a word in flight ends in error and keeps its old value
abbrev pub keeping : Activity → List ℕ → Rest
keeping Idle words = rests.Failed 0
keeping Reading words = rests.Failed 0
keeping (Writing word value) words = rests.Failed (slice_index words word)

-- The half before the datagram, by the device's answer. In time: its own delay decides.
abbrev pub RestsAs : Resting → SlaveHalf → SlaveHalf → Type 0
RestsAs InTime half later = MayRest half later
RestsAs Stays half later = later ≡ half
RestsAs Well half later = Ends half.activity rests.Well false half later
RestsAs Failed half later = Ends half.activity (keeping half.activity half.words) true half later
RestsAs (FailedWith left) half later = later ≡ rested_by half.activity (rests.Failed left) half

-- The half takes a datagram, after it became idle as the device said.
pub record ServesAs
    (resting : Resting) (half : SlaveHalf) (command : Command) (address : ℕ) (content : List ℕ) (outcome : Outcome) : Type 0 where
  pub mid : SlaveHalf
  pub rests : MayRest half mid
  pub said : RestsAs resting half mid
  pub takes : served mid command address content ≡ outcome
