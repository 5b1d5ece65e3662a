-- Captures of the frames on a wire.
use Rattle.std.specs.Prelude.{◌≡◌, ℕ, List, Option, None, Some}
use Rattle.station_files.specs.Files.{ChangesOnly, Known}

-- what a capture may change as it begins: its file, if there is a capture
abbrev pub BeginsCapture : (capture : Option (List ℕ)) → (old new : Known) → Type 0
BeginsCapture None old new = new ≡ old
BeginsCapture (Some name) old new = ChangesOnly old new name
