-- What is written to the file of an image.
use Rattle.std.specs.Prelude.{◌≡◌, ℕ, Bool, List, [], Some, IfSome}
use Rattle.station_files.specs.Alias.{Renames}
use Rattle.station_files.specs.Files.{Known, HasBytes}
use Rattle.station_files.specs.ImageText.{held_of}

-- The file has the text that `alias` prints of the image that it had.
pub record RenamesFile (hex : Bool) (value : ℕ) (old new : Known) (name : List ℕ) : Type 0 where
  pub text : List ℕ
  pub renamed : Renames hex value (held_of (old name)) (Some []) (Some text)
  pub held : HasBytes new name text
