-- What a site is made of, which never changes: the slaves of the line, and which parts the site owns.
use Rattle.std.specs.Prelude.{◌≡◌, ℕ, ◌<◌, Bool, true, List, length, Some, slice_get}

pub record Line : Type 0 where
  -- how many words the EEPROM of each slave has
  pub sizes : List ℕ
  -- whether the site owns the EEPROM half of each slave
  pub owned : List Bool
  -- whether it owns the disk
  pub has_disk : Bool
  -- whether it owns the process halves of all slaves
  pub has_process : Bool

-- The slave is on the line, which has 64 at most, and the site owns its EEPROM half.
abbrev pub Owns : Line → ℕ → Type 0
Owns line slave = (slave < length line.sizes) × (slave < 64) × (slice_get line.owned slave ≡ Some true)
