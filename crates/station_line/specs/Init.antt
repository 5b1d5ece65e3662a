-- What `init` does with the files of a line.
use Rattle.std.specs.Prelude.{◌≡◌, ◌⊎◌, ℕ, List, [], ◌∷◌, length, map, string_bytes, ⊤}
use Rattle.sii_words.specs.Words.{bytes_of}
use Rattle.site_journal.specs.Formatting.{formatted}
use Rattle.station_text.specs.declared.line_file.LineFile.{LineFile}
use Rattle.station_files.specs.Files.{Known, Holds, IsAbsent, ChangesAmong, HoldsAll}
use Rattle.station_files.specs.FileNames.{RefusesLineNames}
use Rattle.station_files.specs.LineFiles.{SpellsLine, SpellsSlaves, RefusesPlant}
use Rattle.station_files.specs.Locations.{Leads}
use Rattle.station_files.specs.declared.faults.Fault.{Fault}
use Rattle.station_files.specs.declared.faults.Fault.TheVariants.{Exists, Memory, File, Disk, Stopped, SameFile}
use Rattle.station_line.specs.Site.{files_of}

-- the files spell this line and the words of its slaves, and the journal's file doesn't exist
pub record IsUnformatted (files : Known) (name : List ℕ) (line : LineFile) (plant : List (List ℕ)) : Type 0 where
  pub described : SpellsLine files name line
  pub slaves : SpellsSlaves files line plant
  pub absent : IsAbsent files (string_bytes line.journal)

-- The journal's file has an empty journal with an area of the line file's size, and each slave's image file has its words.
abbrev pub HoldsEmpty : Known → LineFile → List (List ℕ) → Type 0
HoldsEmpty files line plant = HoldsAll files (files_of line) (formatted (length plant) line.area [] ∷ map bytes_of plant)

-- The line was read, and its journal didn't exist. No other files than the line's changed, and if everything is done they hold the empty
-- journal and the words.
pub record Formats (done : Type 0) (old new : Known) (name : List ℕ) : Type 0 where
  pub line : LineFile
  pub plant : List (List ℕ)
  pub given : IsUnformatted old name line plant
  pub others : ChangesAmong old new (files_of line)
  pub saved : done → HoldsEmpty new line plant

-- the fault for a line that isn't formatted: its files are refused, two of them are one, or the journal's file exists or can't be read
abbrev pub RefusesUnformatted : Known → Leads → List ℕ → Fault → Type 0
RefusesUnformatted files leads name Exists =
    (line : LineFile) × SpellsLine files name line × Holds files (string_bytes line.journal) (λ bytes. ⊤)
RefusesUnformatted files leads name File = ⊤
RefusesUnformatted files leads name SameFile = (line : LineFile) × SpellsLine files name line × RefusesLineNames leads line name SameFile
RefusesUnformatted files leads name fault = RefusesPlant files name fault

-- the faults that may end the formatting and saving of a line
abbrev pub IsOfFormatting : Fault → Type 0
IsOfFormatting Disk = ⊤
IsOfFormatting Stopped = ⊤
IsOfFormatting Memory = ⊤
IsOfFormatting File = ⊤
IsOfFormatting _ = ⊥

-- The line is refused and nothing was written, or a fault ended its formatting.
abbrev pub RefusesInit : Known → Known → Leads → List ℕ → Fault → Type 0
RefusesInit old new leads name fault =
    ((new ≡ old) × RefusesUnformatted old leads name fault) ⊎ (Formats ⊥ old new name × IsOfFormatting fault)
