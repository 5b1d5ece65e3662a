-- The exit status of `show`.
use Rattle.std.specs.Prelude.{◌≡◌, ◌⊎◌, ℕ, Bool, List, Option, IfSome}
use Rattle.sii_words.specs.Words.{bytes_of}
use Rattle.station_listing.specs.ImageListing.{SaysImage, IsSound}
use Rattle.station_listing.specs.declared.listing.Listing.{Listing}
use Rattle.station_files.specs.ImageText.{Spells}
use Rattle.station_files.specs.declared.faults.ExitStatus.{ExitStatus}
use Rattle.station_files.specs.declared.faults.ExitStatus.TheVariants.{Done, File}

-- `Done` where the check byte is right and the chain and all contents can be read, `File` otherwise
abbrev pub IsStatusOf : Listing → ExitStatus → Type 0
IsStatusOf listing status = (IsSound listing × (status ≡ Done)) ⊎ ((¬ IsSound listing) × (status ≡ File))

-- this is the listing of the image that the input spells
pub record ListsInput (hex : Bool) (input : List ℕ) (listing : Listing) : Type 0 where
  pub words : List ℕ
  pub spelt : Spells hex input (bytes_of words)
  pub says : SaysImage words listing

-- the status is that of the listing of an image with these words
pub record ShowsImage (words : List ℕ) (status : ExitStatus) : Type 0 where
  pub listing : Listing
  pub validated : IsStatusOf listing status
  pub says : SaysImage words listing

-- the status is that of the listing of the input's image
pub record ShowsStatus (hex : Bool) (input : Option (List ℕ)) (status : ExitStatus) : Type 0 where
  pub listing : Listing
  pub validated : IsStatusOf listing status
  pub says : IfSome input (λ text. ListsInput hex text listing)
