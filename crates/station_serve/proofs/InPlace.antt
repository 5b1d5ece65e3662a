-- The file of an image that has got an alias.
use Rattle.std.specs.Prelude.{ℕ, Bool, List, [], Some}
use Rattle.station_files.specs.Alias.{Renames}
use Rattle.station_files.specs.Files.{Known, HasBytes}
use Rattle.station_files.specs.ImageText.{held_of}
use Rattle.station_serve.specs.Images.{RenamesFile}

-- what was printed is written
pub renames_file : (hex : Bool) (value : ℕ) (old new : Known) (name text : List ℕ) → Renames hex value (held_of (old name)) (Some []) (Some text) → HasBytes new name text
    → RenamesFile hex value old new name
renames_file hex value old new name text renamed held = record { text = text; renamed = renamed; held = held }
