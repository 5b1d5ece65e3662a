-- What `alias` writes, and why it refuses an image.
use Rattle.std.specs.Prelude.{◌≡◌, ℕ, Bool, List, Option, IfSome}
use Rattle.std.specs.Io.KnownBytes.{Appends}
use Rattle.sii_words.specs.CheckByte.{IsChecked}
use Rattle.sii_words.specs.Words.{bytes_of}
use Rattle.sii_edit.specs.Alias.{ChangesAlias}
use Rattle.sii_edit.specs.Refusal.{entire}
use Rattle.sii_edit.specs.declared.refusal.Cause.TheVariants.{BadCheck}
use Rattle.station_files.specs.declared.faults.Failure.{Failure}
use Rattle.station_files.specs.declared.faults.Failure.TheVariants.{Fault, Refused}
use Rattle.station_files.specs.ImageText.{RefusesInput, Spells, SpellsLower}

-- The input spells an image with a right check byte. What is appended to the output spells the same image with this alias and its new
-- check byte.
pub record Renames (hex : Bool) (value : ℕ) (input before after : Option (List ℕ)) : Type 0 where
  pub old : List ℕ
  pub new : List ℕ
  pub text : List ℕ
  pub read : IfSome input (λ spelt. Spells hex spelt (bytes_of old))
  pub checked : IsChecked old
  pub changed : ChangesAlias old value new
  pub spelt : SpellsLower hex text (bytes_of new)
  pub written : Appends before after text

-- why the alias isn't set: the image can't be read, or its check byte is wrong
abbrev pub RefusesAlias : Bool → List ℕ → Failure → Type 0
RefusesAlias hex input (Fault fault) = RefusesInput hex input fault
RefusesAlias hex input (Refused refusal) =
    (refusal ≡ entire BadCheck) × ((words : List ℕ) × Spells hex input (bytes_of words) × ¬ IsChecked words)
