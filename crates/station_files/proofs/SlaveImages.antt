-- What is written of a slave.
use Rattle.std.proofs.Common.{◌≡◌, ℕ, Bool, false, List, [], ◌∷◌, Option, Ok, subst}
use Rattle.std.specs.Prelude.{IfSome}
use Rattle.sii_words.specs.Plant.{words_of}
use Rattle.sii_words.specs.Words.{bytes_of}
use Rattle.sii_edit.specs.Command.{outcome}
use Rattle.sii_edit.specs.declared.command.Command.TheVariants.{One}
use Rattle.sii_edit.specs.declared.command.Edit.TheVariants.{Image}
use Rattle.station_files.specs.Devices.{GivesSlave, IsForSlave, IsWritten, WritesSlave}
use Rattle.station_files.specs.Files.{Known, HasBytes}
use Rattle.station_files.specs.ImageText.{Spells}

-- the bytes of the line after the command are those of the slave
pub is_written : (words image bytes : List ℕ) (before line : List (List ℕ)) → before ≡ words ∷ [] → outcome before (One (Image 0 image)) ≡ Ok line → bytes ≡ bytes_of (words_of line 0) → IsWritten words image bytes
is_written words image bytes before line alone changed spelt = record { line = line; changed = rw alone at changed; spelt = spelt }

-- what the image makes of the slave
pub gives_slave : (any_device : Bool) (input : Option (List ℕ)) (files read : Known) (name words image bytes : List ℕ) → read ≡ files → HasBytes read name (bytes_of words) → IfSome input (λ text. Spells false text (bytes_of image))
    → (any_device ≡ false → IsForSlave words image) → IsWritten words image bytes → GivesSlave any_device input files name bytes
gives_slave any_device input files read name words image bytes same slave spelt device written = record {
  words = words;
  image = image;
  slave = let P : Known → Type 0 = λ known. HasBytes known name (bytes_of words) in subst P same slave;
  read = spelt;
  device = device;
  written = written;
}

-- what was made of it is written
pub writes_slave : (any_device : Bool) (input : Option (List ℕ)) (old new : Known) (name bytes : List ℕ) → GivesSlave any_device input old name bytes → HasBytes new name bytes → WritesSlave any_device input old new name
writes_slave any_device input old new name bytes given held = record { bytes = bytes; given = given; held = held }
