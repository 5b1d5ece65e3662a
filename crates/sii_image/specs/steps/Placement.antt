-- Rows placed one after the other.
use Rattle.std.specs.Prelude.{◌≡◌, ℕ, ◌+◌, ◌<◌, List, [], ◌∷◌, ◌++◌, Result, Ok, Err}
use Rattle.sii_image.specs.declared.process_image.Segment.{Segment}
use Rattle.sii_image.specs.declared.rows.Row.{Row}
use Rattle.sii_image.specs.declared.fault.ImageFault.{ImageFault}
use Rattle.sii_image.specs.declared.fault.ImageFault.TheVariants.{Memory, ImageOverLimit}
use Rattle.sii_image.specs.declared.placement.Placement.{Placement}
use Rattle.sii_image.specs.ProcessImage.{segment_at, size_of, total}

-- the segments of rows one after the other, the first at this offset
abbrev pub segments_from : ℕ → List (ℕ × Row) → List Segment
segments_from offset [] = []
segments_from offset (r ∷ rows) = segment_at offset r ∷ segments_from (offset + size_of r.1) rows

-- These rows were placed after the earlier ones.
pub record AreAdded (old new : Placement) (rows : List (ℕ × Row)) : Type 0 where
  pub segments : new.segments.items ≡ old.segments.items ++ segments_from old.size rows
  pub size : new.size ≡ old.size + total rows

-- What placing rows answers: they are placed, or ImageOverLimit only where they don't fit, or Memory, which may always be
-- answered.
abbrev pub Places : Placement → Placement → List (ℕ × Row) → Result (Unit {0}) ImageFault → Type 0
Places old new rows (Ok done) = AreAdded old new rows
Places old new rows (Err ImageOverLimit) = 1486 < old.size + total rows
Places old new rows (Err Memory) = Unit {0}
