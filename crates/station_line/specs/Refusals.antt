-- Why `run` and `recover` are refused before anything is written.
use Rattle.std.specs.Prelude.{◌≡◌, ◌⊎◌, ℕ, ◌+◌, ◌^◌, Bool, false, List, [], ◌∷◌, ◌++◌, None, length, map, string_bytes, ⊤}
use Rattle.jrn_format.specs.declared.fault.JournalFault.{JournalFault}
use Rattle.jrn_format.specs.Fault.{IsFaultOf}
use Rattle.station_text.specs.declared.line_file.LineFile.{LineFile}
use Rattle.station_files.specs.Files.{Known, RefusesFile}
use Rattle.station_files.specs.FileNames.{files_with, written_of, RefusesLineNames, RefusesNames}
use Rattle.station_files.specs.LineFiles.{SpellsLine, RefusesPlant}
use Rattle.station_files.specs.Locations.{Leads}
use Rattle.station_files.specs.ScriptFiles.{RefusesScript}
use Rattle.station_files.specs.declared.faults.Fault.{Fault}
use Rattle.station_files.specs.declared.faults.Fault.TheVariants.{Memory, File, Busy, SameFile, NotAFile, TooLong}
use Rattle.station_line.specs.Faults.{of_journal}
use Rattle.station_line.specs.Opened.{IsLine}

-- ---- the journal's bytes

-- The journal's file has bytes that are no journal of the line, for the reason that the fault names, or memory was refused.
pub record RefusesJournal (files : Known) (name : List ℕ) (fault : Fault) : Type 0 where
  pub line : LineFile
  pub plant : List (List ℕ)
  pub bytes : List ℕ
  pub given : IsLine files name line plant bytes
  pub why : JournalFault
  pub refused : IsFaultOf bytes (map length plant) why
  pub is : fault ≡ of_journal why

-- ---- the line's files

-- the fault for the journal's file of a line: it can't be read, memory was refused, or it is no file or too long
pub record RefusesJournalFile (files : Known) (name : List ℕ) (fault : Fault) : Type 0 where
  pub line : LineFile
  pub described : SpellsLine files name line
  pub refused : RefusesFile (8 + 2 ^ 22) files (string_bytes line.journal) fault

-- the fault for the files of a line: one can't be read or memory was refused; the line file describes no line; another station has the
-- journal; an image file has no words of a device; one is no file or too long; or two of the files are one
abbrev pub RefusesSession : Known → Leads → List ℕ → Fault → Type 0
RefusesSession files leads name File = ⊤
RefusesSession files leads name Memory = ⊤
RefusesSession files leads name NotAFile = RefusesPlant files name NotAFile ⊎ RefusesJournalFile files name NotAFile
RefusesSession files leads name TooLong = RefusesPlant files name TooLong ⊎ RefusesJournalFile files name TooLong
RefusesSession files leads name Busy = (line : LineFile) × SpellsLine files name line
RefusesSession files leads name SameFile = (line : LineFile) × SpellsLine files name line × RefusesLineNames leads line name SameFile
RefusesSession files leads name fault = RefusesPlant files name fault

-- the fault for which a recovery is refused
abbrev pub RefusesRecovery : Known → Leads → List ℕ → Fault → Type 0
RefusesRecovery files leads name fault = RefusesSession files leads name fault ⊎ RefusesJournal files name fault

-- ---- the script's files

-- the fault for a script on a line of these files: that of the script or of an image that it names, or two of the files and the script clash
abbrev pub RefusesCommandFiles : Known → Leads → Bool → ℕ → List (List ℕ) → List ℕ → Fault → Type 0
RefusesCommandFiles files leads has_capture count names script fault =
    RefusesScript files script fault ⊎ RefusesNames leads has_capture count (names ++ script ∷ []) fault

-- The line file was read, and the script's files are refused with this fault.
pub record RefusesScriptFiles (files : Known) (leads : Leads) (name script : List ℕ) (fault : Fault) : Type 0 where
  pub line : LineFile
  pub described : SpellsLine files name line
  pub refused : RefusesCommandFiles files leads false (length (written_of None line)) (files_with None line name) script fault

-- the fault for which a run is refused: that of the line's files, of the script's, or of the journal's bytes
abbrev pub RefusesRun : Known → Leads → (name script : List ℕ) → Fault → Type 0
RefusesRun files leads name script fault =
    RefusesSession files leads name fault ⊎ RefusesScriptFiles files leads name script fault ⊎ RefusesJournal files name fault
