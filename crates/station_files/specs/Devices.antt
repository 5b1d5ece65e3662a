-- Which images are those of a slave, and what is written of one.
use Rattle.std.specs.Prelude.{◌≡◌, ◌≤◌, ℕ, Bool, false, List, [], ◌∷◌, Option, Ok, IfSome, length}
use Rattle.sii_words.specs.Plant.{words_of}
use Rattle.sii_words.specs.Words.{bytes_of, double_word}
use Rattle.sii_words.specs.CheckByte.{IsChecked}
use Rattle.sii_edit.specs.Command.{outcome}
use Rattle.sii_edit.specs.declared.command.Command.TheVariants.{One}
use Rattle.sii_edit.specs.declared.command.Edit.TheVariants.{Image}
use Rattle.station_files.specs.Files.{Known, HasBytes}
use Rattle.station_files.specs.ImageText.{Spells}

-- An image has the vendor and the product of a slave, if the slave's check byte is right, and as many words at least.
pub record IsForSlave (words image : List ℕ) : Type 0 where
  pub vendor : IsChecked words → double_word image 8 ≡ double_word words 8
  pub product : IsChecked words → double_word image 10 ≡ double_word words 10
  pub entire : length words ≤ length image

-- These are the bytes of a slave alone on its line that had these words, once the command has written the image.
pub record IsWritten (words image bytes : List ℕ) : Type 0 where
  pub line : List (List ℕ)
  pub changed : outcome (words ∷ []) (One (Image 0 image)) ≡ Ok line
  pub spelt : bytes ≡ bytes_of (words_of line 0)

-- The slave whose words the file of this name has would get these bytes by the command that writes the image which the input spells. Unless any
-- device is taken, that is one for the slave.
pub record GivesSlave (any_device : Bool) (input : Option (List ℕ)) (files : Known) (name bytes : List ℕ) : Type 0 where
  pub words : List ℕ
  pub image : List ℕ
  pub slave : HasBytes files name (bytes_of words)
  pub read : IfSome input (λ text. Spells false text (bytes_of image))
  pub device : any_device ≡ false → IsForSlave words image
  pub written : IsWritten words image bytes

-- The file has the bytes that its slave gets so.
pub record WritesSlave (any_device : Bool) (input : Option (List ℕ)) (old new : Known) (name : List ℕ) : Type 0 where
  pub bytes : List ℕ
  pub given : GivesSlave any_device input old name bytes
  pub held : HasBytes new name bytes
