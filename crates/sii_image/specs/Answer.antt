-- What asking for a process image answers.
use Rattle.std.specs.Prelude.{◌≡◌, Option, Some, None, Result, Ok, Err}
use Rattle.sii_image.specs.ProcessImage.{ProcessImageParts}
use Rattle.sii_image.specs.declared.fault.ImageFault.{ImageFault}
use Rattle.sii_image.specs.declared.fault.ImageFault.TheVariants.{Memory, ImageOverLimit}

-- The answer is the process image, or ImageOverLimit only where there is none, or Memory, which may always be answered.
abbrev pub GivesProcessImage : Result ProcessImageParts ImageFault → Option ProcessImageParts → Type 0
GivesProcessImage (Ok image) defined = defined ≡ Some image
GivesProcessImage (Err ImageOverLimit) defined = defined ≡ None
GivesProcessImage (Err Memory) defined = Unit {0}
