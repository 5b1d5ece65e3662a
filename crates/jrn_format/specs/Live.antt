-- Conditions on the live batches alone, without the bytes: what a book is opened with.
use Rattle.std.specs.Prelude.{◌≡◌, ℕ, ◌/◌, ◌≤◌, ◌<◌, ◌==◌, not, filter, List, [], ◌∷◌, length}
use Rattle.std.specs.List.{AllByRecursion}
use Rattle.jrn_format.specs.declared.journal.Batch.{Batch}
use Rattle.jrn_format.specs.declared.journal.Form.{Form}
use Rattle.jrn_format.specs.declared.journal.Form.TheVariants.{One, Two, Moving}
use Rattle.jrn_format.specs.declared.journal.Spelling.{Spelling}
use Rattle.jrn_format.specs.declared.journal.Spelling.TheVariants.{Plain, WithGeneration}
use Rattle.jrn_format.specs.Batch.{CanStand, IsWithin}
use Rattle.jrn_format.specs.Area.{spelt_batches}
use Rattle.jrn_format.specs.Journal.{AreOf}
use Rattle.jrn_format.specs.Halves.{Halves, other, next_generation, live}

-- An area of `room` bytes has room for the batches and a closed gate after the last.
pub record FitArea (spelling : Spelling) (half room : ℕ) (batches : List Batch) : Type 0 where
  pub can_stand : AllByRecursion (CanStand spelling half) batches
  pub closes : length (spelt_batches spelling batches) < room

-- The halves that hold these batches. The first batch is in the older half.
abbrev pub halves_in : List Batch → Halves
halves_in [] = record { at = 0; generation = 0; older = []; newer = [] }
halves_in (first ∷ batches) = record {
  at = first.half;
  generation = first.generation;
  older = first ∷ filter (λ batch. batch.half == first.half) batches;
  newer = filter (λ batch. not (batch.half == first.half)) batches;
}

-- The batches fit into these halves of `room` bytes each.
pub record FitHalves (room : ℕ) (halves : Halves) : Type 0 where
  pub at : halves.at ≤ 1
  pub generation : halves.generation < 256
  pub older_fit : FitArea WithGeneration halves.at room halves.older
  pub newer_fit : FitArea WithGeneration (other halves.at) room halves.newer
  pub older_of : AreOf halves.generation halves.older
  pub newer_of : AreOf (next_generation halves) halves.newer

-- The batches fit into the area of a journal of this form.
abbrev pub FitForm : Form → (capacity : ℕ) → List Batch → Type 0
FitForm One capacity batches = FitArea Plain 0 capacity batches
FitForm Two capacity batches = FitHalves (capacity / 2) (halves_in batches) × (live (halves_in batches) ≡ batches)
FitForm Moving capacity batches = batches ≡ []

-- The batches may be live in a journal of this form, with an area of `capacity` bytes, of a line whose slaves have `sizes` words each.
pub record CanBeLive (form : Form) (capacity : ℕ) (sizes : List ℕ) (batches : List Batch) : Type 0 where
  pub fit : FitForm form capacity batches
  pub within : AllByRecursion (IsWithin sizes) batches
