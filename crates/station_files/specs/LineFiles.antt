-- A line in files: the line file, and the image files that it names.
use Rattle.std.specs.Prelude.{◌≡◌, ◌⊎◌, ◌/◌, ◌%◌, ◌^◌, ℕ, List, ◌∷◌, ◌++◌, length, map, IsSomeAnd, IsUtf8, None, Some}
use Rattle.std.specs.Prelude.{string_bytes, ⊤}
use Rattle.std.specs.List.{AllZip}
use Rattle.toml.specs.Parse.{parse_document}
use Rattle.sii_image.specs.ProcessImage.{ProcessImageParts, process_image}
use Rattle.sii_words.specs.Words.{IsDeviceSize, bytes_of}
use Rattle.station_text.specs.LineText.{Describes}
use Rattle.station_text.specs.declared.line_file.LineFile.{LineFile}
use Rattle.station_files.specs.Files.{Known, Holds, HasBytes, RefusesFile}
use Rattle.station_files.specs.declared.faults.Fault.{Fault}
use Rattle.station_files.specs.declared.faults.Fault.TheVariants.{OddLength, BadSize, ImageOverLimit, BadLine, Memory, File, NotAFile}

-- the file of this name has these words, low byte first
abbrev pub SpellsWords : Known → List ℕ → List ℕ → Type 0
SpellsWords files name words = HasBytes files name (bytes_of words)

-- the text describes this line
abbrev pub DescribesLine : List ℕ → LineFile → Type 0
DescribesLine text line = IsSomeAnd (parse_document text) (λ document. Describes document line.journal line.area line.images.items)

-- the text of this file describes this line
abbrev pub SpellsLine : Known → List ℕ → LineFile → Type 0
SpellsLine files name line = Holds files name (λ text. DescribesLine text line)

-- the text describes no line
abbrev pub IsNoLine : List ℕ → Type 0
IsNoLine text = (¬ IsUtf8 text) ⊎ ((line : LineFile) → ¬ DescribesLine text line)

-- the names of the slaves' image files, in order
abbrev pub names_of : LineFile → List (List ℕ)
names_of line = map (λ name. string_bytes name) line.images.items

-- the image file of each slave has the words of the plant
abbrev pub SpellsSlaves : Known → LineFile → List (List ℕ) → Type 0
SpellsSlaves files line plant = AllZip (SpellsWords files) (names_of line) plant

-- the line file of this name and the image files that it names spell this plant
pub record SpellsPlant (files : Known) (name : List ℕ) (plant : List (List ℕ)) : Type 0 where
  pub line : LineFile
  pub described : SpellsLine files name line
  pub slaves : SpellsSlaves files line plant

-- this is the process image of the plant that the files spell
pub record ListsFiles (files : Known) (name : List ℕ) (image : ProcessImageParts) : Type 0 where
  pub plant : List (List ℕ)
  pub spelt : SpellsPlant files name plant
  pub is : process_image plant ≡ Some image

-- the fault for an image file: it can't be read, memory was refused, it is no file, or its bytes are not the words of a device
abbrev pub RefusesWords : Known → List ℕ → Fault → Type 0
RefusesWords files name File = ⊤
RefusesWords files name Memory = ⊤
RefusesWords files name NotAFile = files name ≡ None
RefusesWords files name OddLength = Holds files name (λ bytes. length bytes % 2 ≡ 1)
RefusesWords files name BadSize = Holds files name (λ bytes. (length bytes % 2 ≡ 0) × ¬ IsDeviceSize (length bytes / 2))
RefusesWords files name _ = ⊥

-- this is the fault of the first bad file: all files before it spell words
pub record RefusesFirst (files : Known) (names : List (List ℕ)) (fault : Fault) : Type 0 where
  pub before : List (List ℕ)
  pub name : List ℕ
  pub after : List (List ℕ)
  pub in_order : names ≡ before ++ name ∷ after
  pub words : List (List ℕ)
  pub good : AllZip (SpellsWords files) before words
  pub bad : RefusesWords files name fault

-- the fault for the image files: memory was refused, or it is the fault of the first bad file
abbrev pub RefusesSlaves : Known → List (List ℕ) → Fault → Type 0
RefusesSlaves files names Memory = ⊤
RefusesSlaves files names fault = RefusesFirst files names fault

-- the fault for a text that should be a line file: it describes no line, or memory was refused
abbrev pub RefusesLineText : List ℕ → Fault → Type 0
RefusesLineText text Memory = ⊤
RefusesLineText text BadLine = IsNoLine text
RefusesLineText text _ = ⊥

-- the fault for a line file: it can't be read, memory was refused, it is no file or too long, or its text describes no line
abbrev pub RefusesLine : Known → List ℕ → Fault → Type 0
RefusesLine files name BadLine = Holds files name IsNoLine
RefusesLine files name fault = RefusesFile (2 ^ 26) files name fault

-- the fault for a line: that of its line file, or that of its image files
abbrev pub RefusesPlant : Known → List ℕ → Fault → Type 0
RefusesPlant files name fault =
    RefusesLine files name fault ⊎ ((line : LineFile) × SpellsLine files name line × RefusesSlaves files (names_of line) fault)

-- the fault for a listing of the process image: a file is bad, there is no process image, memory was refused, or the output failed
abbrev pub RefusesLayout : Known → List ℕ → Fault → Type 0
RefusesLayout files name ImageOverLimit = (plant : List (List ℕ)) × SpellsPlant files name plant × (process_image plant ≡ None)
RefusesLayout files name File = ⊤
RefusesLayout files name Memory = ⊤
RefusesLayout files name fault = RefusesPlant files name fault
