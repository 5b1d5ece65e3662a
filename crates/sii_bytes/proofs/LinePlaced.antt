-- The process image of a line that was read.
use Rattle.std.proofs.Common.{◌≡◌, ℕ, ◌<◌, List, length, Some, None, Ok, Err, refl, sym, ap, ◌∙◌, inl, inr}
use Rattle.sii_image.specs.ProcessImage.{ProcessImageParts, process_image}
use Rattle.sii_bytes.specs.declared.line.ImageSizes.{ImageSizes}
use Rattle.sii_bytes.specs.declared.line.PlacedSegment.{PlacedSegment}
use Rattle.sii_bytes.specs.Line.{PlacesLine, ReadsLine, Writes}
use Rattle.sii_bytes.specs.Line.PlacesLine.{done, no_line, refused, over_limit, no_space}

module _ (lengths bytes : List ℕ) (old new : List PlacedSegment) (sizes : ImageSizes) (Unchanged : Type 0) where
  pub line-refused : (code : ℕ) → ReadsLine lengths bytes (Err code) → Unchanged → PlacesLine lengths bytes old code new sizes Unchanged
  line-refused code (inl so) same = no_line so.0 so.1 same
  line-refused code (inr so) same = refused so.0 so.1 same

  module _ (plant : List (List ℕ)) (read : ReadsLine lengths bytes (Ok plant)) where
    pub line-over : process_image plant ≡ None → Unchanged → PlacesLine lengths bytes old 19 new sizes Unchanged
    line-over none same = over_limit refl read.0 read.1.0 (sym (ap process_image read.1.1) ∙ none) same

    module _ (image : ProcessImageParts) (has : process_image plant ≡ Some image) where
      pub line-spaceless : length old < length image.segments → Unchanged → PlacesLine lengths bytes old 213 new sizes Unchanged
      line-spaceless few same = no_space image refl read.0 read.1.0 (sym (ap process_image read.1.1) ∙ has) few same

      pub line-done : Writes image old new sizes → PlacesLine lengths bytes old 0 new sizes Unchanged
      line-done writes = done image refl read.0 read.1.0 (sym (ap process_image read.1.1) ∙ has) writes
