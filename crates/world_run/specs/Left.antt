-- What a failed write or a stop leaves, by choice, in unsynced bytes and in words in flight.
use Rattle.std.specs.Prelude.{◌≡◌, ℕ, ◌<◌, ◌==◌, List, [], ◌∷◌, length, true, false, Option, Some, None, slice_get, slice_index, if◌then◌else◌}
use Rattle.std.specs.List.{AllByRecursion}
use Rattle.esc_model.specs.declared.rest.WordWrite.{WordWrite}
use Rattle.esc_model.specs.SlaveHalf.{SlaveHalf, in_flight, settled, with_errors}
use Rattle.site_core.specs.Disk.{Range, IsOutside}
use Rattle.world_run.specs.declared.half.WordEnd.{WordEnd}
use Rattle.world_run.specs.declared.half.WordEnd.TheVariants.{Well, Failed}
use Rattle.world_run.specs.declared.leaving.LeftByte.{LeftByte}
use Rattle.world_run.specs.declared.leaving.LeftWord.{LeftWord}

-- ---- bytes

-- The value of the last choice that names this place, or the byte itself if none does.
abbrev pub byte_left : List LeftByte → (at byte : ℕ) → ℕ
byte_left [] at byte = byte
byte_left (left ∷ others) at byte = byte_left others at (if left.at == at then left.byte else byte)

-- Each byte in the ranges holds the value chosen for it, and no other byte changes.
pub record HoldsLeft (ranges : List Range) (choice : List LeftByte) (old new : List ℕ) : Type 0 where
  pub long : length new ≡ length old
  pub outside : (at : ℕ) → AllByRecursion (IsOutside at) ranges → slice_get new at ≡ slice_get old at
  pub inside : (at : ℕ) → at < length old → ¬ AllByRecursion (IsOutside at) ranges
      → slice_get new at ≡ Some (byte_left choice at (slice_index old at))

-- ---- words

-- The value of the first choice that names this slave; None if none does.
abbrev pub word_left : List LeftWord → (slave : ℕ) → Option ℕ
word_left [] slave = None
word_left (left ∷ others) slave = if left.slave == slave then Some left.word else word_left others slave

-- The half after a stop: with a value chosen, a word in flight holds it and the half is idle. With none it stays in flight.
abbrev pub torn_half : Option ℕ → Option WordWrite → SlaveHalf → SlaveHalf
torn_half (Some left) (Some write) half = settled half write.word left
torn_half (Some left) None half = half
torn_half None flying half = half

-- The half once its word in flight, if any, has ended: the half is idle.
abbrev pub ended_half : WordEnd → Option WordWrite → SlaveHalf → SlaveHalf
ended_half Well (Some write) half = with_errors (settled half write.word write.value) false false
ended_half (Failed left) (Some write) half = with_errors (settled half write.word left) true half.registers.enable_error
ended_half Well None half = half
ended_half (Failed left) None half = half

-- A stop changes each half by the value chosen for it.
pub record TornBy (choice : List LeftWord) (old new : List SlaveHalf) : Type 0 where
  pub count : length new ≡ length old
  pub each : (slave : ℕ) (half : SlaveHalf) → slice_get old slave ≡ Some half
      → slice_get new slave ≡ Some (torn_half (word_left choice slave) (in_flight half.activity) half)
