-- The exit status of `diff`.
use Rattle.std.specs.Prelude.{◌≡◌, ◌≢◌, ◌⊎◌, ℕ, Bool, List, Option, Some, None, IfSome}
use Rattle.sii_words.specs.Words.{bytes_of}
use Rattle.line_changes.specs.Difference.{NothingDiffers}
use Rattle.line_changes.specs.declared.difference.Difference.{Difference}
use Rattle.station_files.specs.Files.{Known}
use Rattle.station_files.specs.ImageText.{RefusesInput, Spells, text_of}
use Rattle.station_files.specs.declared.faults.Fault.{Fault}
use Rattle.station_files.specs.declared.faults.ExitStatus.{ExitStatus}
use Rattle.station_files.specs.declared.faults.ExitStatus.TheVariants.{Done, Refused}

-- the text that the second image is read from, as far as it is known: nothing is, where the first image takes the input that it is read from
abbrev pub second_text : Option (List ℕ) → Option (List ℕ) → Option (List ℕ) → Known → Option (List ℕ)
second_text None None input files = None
second_text first second input files = text_of second input files

-- Where the texts that two images are read from are known, this holds of them.
abbrev pub IfKnown : Option (List ℕ) → Option (List ℕ) → Option (List ℕ) → Known → (List ℕ → List ℕ → Type 0) → Type 0
IfKnown old new input files Holds =
    IfSome (text_of old input files) (λ first. IfSome (second_text old new input files) (λ second. Holds first second))

-- `Done` where nothing differs, `Refused` where something does
abbrev pub IsStatusOf : Difference → ExitStatus → Type 0
IsStatusOf difference status = (NothingDiffers difference × (status ≡ Done)) ⊎ ((¬ NothingDiffers difference) × (status ≡ Refused))

-- `Done` where two images have the same words, `Refused` where they differ
abbrev pub IsStatusOfPair : List ℕ → List ℕ → ExitStatus → Type 0
IsStatusOfPair old new status = ((old ≡ new) × (status ≡ Done)) ⊎ ((old ≢ new) × (status ≡ Refused))

-- the texts spell two images, and the status is `Done` where they have the same words and `Refused` where they differ
pub record TellsDifference (hex : Bool) (first second : List ℕ) (status : ExitStatus) : Type 0 where
  pub old : List ℕ
  pub new : List ℕ
  pub read_first : Spells hex first (bytes_of old)
  pub read_second : Spells hex second (bytes_of new)
  pub reported : IsStatusOfPair old new status

-- the fault is one of the first text, or one of the second
abbrev pub RefusesPair : Bool → List ℕ → List ℕ → Fault → Type 0
RefusesPair hex first second fault = RefusesInput hex first fault ⊎ RefusesInput hex second fault
