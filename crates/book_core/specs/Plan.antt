-- The plan that a book gives for the cyclic exchange.
use Rattle.std.specs.Prelude.{◌≡◌, Result, Ok, Err, Some, None}
use Rattle.sii_image.specs.declared.plan.Plan.{Plan}
use Rattle.sii_image.specs.declared.fault.ImageFault.{ImageFault}
use Rattle.sii_image.specs.declared.fault.ImageFault.TheVariants.{Memory, ImageOverLimit}
use Rattle.sii_image.specs.ProcessImage.{process_image}
use Rattle.book_model.specs.Book.{Book}
use Rattle.book_model.specs.Reading.{applied, planned}

-- A plan has the process image of the contents after the settled commands, and their number. ImageOverLimit says that these contents
-- have no process image; Memory says nothing.
abbrev pub IsPlan : Book → Result Plan ImageFault → Type 0
IsPlan book (Ok plan) = (plan.prefix ≡ applied book) × (process_image (planned book) ≡ Some plan.image)
IsPlan book (Err ImageOverLimit) = process_image (planned book) ≡ None
IsPlan book (Err Memory) = Unit {0}
