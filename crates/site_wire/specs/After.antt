-- A real slave and its half in the shadow: it has the shadow's words but for a word in flight, also while the device tells it the word again or
-- reads the word back (ETG.1000.4, slave information interface).
use Rattle.std.specs.Prelude.{◌≡◌, ◌⊎◌, ℕ, false, List, None}
use Rattle.esc_model.specs.SlaveHalf.{SlaveHalf, Idle, Reading, in_flight, powered_up, MayHold, MayLeave}

-- The real slave is at the same station, with the same access. Its words are those of the shadow, but for the word in flight. It does
-- nothing, or reads, or does what the shadow does.
pub record IsAmended (shadow real : SlaveHalf) : Type 0 where
  pub station : real.station ≡ shadow.station
  pub offered : real.registers.offered ≡ shadow.registers.offered
  pub forced : real.registers.forced ≡ shadow.registers.forced
  pub words : MayHold shadow.activity shadow.words real.words
  pub activity : (real.activity ≡ Idle) ⊎ ((real.activity ≡ Reading) ⊎ (real.activity ≡ shadow.activity))

-- The real slave follows its half: it is amended, and while no word is in flight it is idle. Errors may differ.
pub record IsAfter (shadow real : SlaveHalf) : Type 0 where
  pub amended : IsAmended shadow real
  pub idle : in_flight shadow.activity ≡ None → real.activity ≡ Idle

-- The slave is as bring-up leaves it: it has these words, is at this station and idle, and its EEPROM isn't offered to the PDI.
pub record IsBroughtUp (words : List ℕ) (station : ℕ) (real : SlaveHalf) : Type 0 where
  pub words_are : real.words ≡ words
  pub station_is : real.station ≡ station
  pub idle : real.activity ≡ Idle
  pub offered : real.registers.offered ≡ false
  pub forced : real.registers.forced ≡ false

-- Such a slave follows the shadow of its words at power-up, with which the site begins.
abbrev pub BroughtUpIsAfter : Type 0
BroughtUpIsAfter = (words : List ℕ) (station : ℕ) (real : SlaveHalf) → IsBroughtUp words station real → IsAfter (powered_up words station) real

-- A power cut leaves of such a real slave what it may leave of the shadow.
abbrev pub AmendedLeavesNoMore : Type 0
AmendedLeavesNoMore = (shadow real : SlaveHalf) (left : List ℕ) → IsAmended shadow real → MayLeave real left → MayLeave shadow left
