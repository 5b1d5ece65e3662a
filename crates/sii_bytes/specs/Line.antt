-- The process image of a line whose slaves stand one behind the other.
use Rattle.std.specs.Prelude.{◌≡◌, ◌⊎◌, ℕ, ◌<◌, ◌≤◌, if◌then◌else◌, List, [], ◌∷◌, ◌++◌, length, map, take, drop, sum, All, Some, None, Result, Ok, Err}
use Rattle.sii_words.specs.Words.{IsDeviceSize}
use Rattle.sii_image.specs.ProcessImage.{ProcessImageParts, process_image}
use Rattle.sii_image.specs.declared.process_image.Segment.{Segment}
use Rattle.sii_bytes.specs.declared.line.ImageSizes.{ImageSizes}
use Rattle.sii_bytes.specs.declared.line.PlacedSegment.{PlacedSegment}
use Rattle.sii_bytes.specs.Bytes.{AreRefused, AreWords, words_in}

-- the bytes of each slave
abbrev pub pieces : (lengths bytes : List ℕ) → List (List ℕ)
pieces [] bytes = []
pieces (count ∷ lengths) bytes = take count bytes ∷ pieces lengths (drop count bytes)

-- There are 1 to 64 slaves, and their lengths make up the bytes.
pub record IsLine (lengths bytes : List ℕ) : Type 0 where
  pub some : 1 ≤ length lengths
  pub most : length lengths ≤ 64
  pub entire : sum lengths ≡ length bytes

-- The first slave that isn't read is refused with this code; those before it are devices.
abbrev pub FirstRefused : List (List ℕ) → ℕ → Type 0
FirstRefused [] code = ⊥
FirstRefused (piece ∷ pieces) code = AreRefused IsDeviceSize piece code ⊎ (AreWords IsDeviceSize piece × FirstRefused pieces code)

-- Each slave is read, or the first that isn't is refused.
abbrev pub ReadsEach : List (List ℕ) → Result (List (List ℕ)) ℕ → Type 0
ReadsEach pieces (Ok plant) = All (AreWords IsDeviceSize) pieces × (plant ≡ map words_in pieces)
ReadsEach pieces (Err code) = FirstRefused pieces code

-- The line is read; or 212: there are no such slaves.
abbrev pub ReadsLine : (lengths bytes : List ℕ) → Result (List (List ℕ)) ℕ → Type 0
ReadsLine lengths bytes (Ok plant) = IsLine lengths bytes × ReadsEach (pieces lengths bytes) (Ok plant)
ReadsLine lengths bytes (Err code) = ((code ≡ 212) × ¬ IsLine lengths bytes)
    ⊎ (IsLine lengths bytes × ReadsEach (pieces lengths bytes) (Err code))

-- a segment with all its values as numbers
abbrev pub placed_segment : Segment → PlacedSegment
placed_segment s = record {
  slave = s.slave;
  manager = s.manager;
  output = if s.output then 1 else 0;
  offset = s.offset;
  size = s.size;
  bits = s.bits;
  start = s.start;
  control = s.control;
}

-- These are the sizes of the process image.
pub record IsSizes (image : ProcessImageParts) (sizes : ImageSizes) : Type 0 where
  pub segments : sizes.segments ≡ length image.segments
  pub outputs : sizes.outputs ≡ image.outputs
  pub inputs : sizes.inputs ≡ image.inputs
  pub counter : sizes.counter ≡ image.counter

-- The process image is written: its segments to the first places, and its sizes.
pub record Writes (image : ProcessImageParts) (old new : List PlacedSegment) (sizes : ImageSizes) : Type 0 where
  pub segments : new ≡ map placed_segment image.segments ++ drop (length image.segments) old
  pub sizes_are : IsSizes image sizes

-- What placing a line answers: 0, this is its process image; 212, there are no such slaves; the code of the first slave that can't be read;
-- 19, it has no process image; 213, there is no room for its segments; or 20, memory was refused. With another code than 0 nothing is
-- changed.
pub data PlacesLine (lengths bytes : List ℕ) (old : List PlacedSegment) (code : ℕ) (new : List PlacedSegment) (sizes : ImageSizes)
    (Unchanged : Type 0) : Type 0 where
  done : (image : ProcessImageParts) → code ≡ 0 → IsLine lengths bytes → All (AreWords IsDeviceSize) (pieces lengths bytes)
      → process_image (map words_in (pieces lengths bytes)) ≡ Some image → Writes image old new sizes
      → PlacesLine lengths bytes old code new sizes Unchanged
  no_line : code ≡ 212 → ¬ IsLine lengths bytes → Unchanged → PlacesLine lengths bytes old code new sizes Unchanged
  refused : IsLine lengths bytes → FirstRefused (pieces lengths bytes) code → Unchanged → PlacesLine lengths bytes old code new sizes Unchanged
  over_limit : code ≡ 19 → IsLine lengths bytes → All (AreWords IsDeviceSize) (pieces lengths bytes)
      → process_image (map words_in (pieces lengths bytes)) ≡ None → Unchanged → PlacesLine lengths bytes old code new sizes Unchanged
  no_space : (image : ProcessImageParts) → code ≡ 213 → IsLine lengths bytes → All (AreWords IsDeviceSize) (pieces lengths bytes)
      → process_image (map words_in (pieces lengths bytes)) ≡ Some image → length old < length image.segments → Unchanged
      → PlacesLine lengths bytes old code new sizes Unchanged
  memory : code ≡ 20 → Unchanged → PlacesLine lengths bytes old code new sizes Unchanged
