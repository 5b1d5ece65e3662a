-- What is judged of a line and a script before a file is opened for writing.
use Rattle.std.specs.Prelude.{ℕ, List, [], ◌∷◌, ◌++◌, None, Option, length, MatchOption}
use Rattle.site_shadow.specs.Site.{SiteValue}
use Rattle.jrn_format.specs.declared.fault.JournalFault.{JournalFault}
use Rattle.jrn_format.specs.declared.journal.Journal.{Journal}
use Rattle.jrn_format.specs.Fault.{IsFaultOf}
use Rattle.jrn_format.specs.Journal.{IsJournal}
use Rattle.station_text.specs.declared.line_file.LineFile.{LineFile}
use Rattle.station_files.specs.FileNames.{files_with, written_of}
use Rattle.station_files.specs.Locations.{AreSeparate, Leads}

-- the bytes are a journal of a line whose slaves have `sizes` words
abbrev pub HasJournal : (sizes bytes : List ℕ) → Type 0
HasJournal sizes bytes = (journal : Journal) × IsJournal bytes sizes journal

-- the disk of this site has a journal of its line, or this is why it has none, or that memory was refused
abbrev pub IsValidated : SiteValue → Option JournalFault → Type 0
IsValidated site refusal =
    MatchOption refusal (HasJournal site.line.sizes site.seen.state.disk.bytes) (IsFaultOf site.seen.state.disk.bytes site.line.sizes)

-- The journal and the image files stand apart from each other, and from the line file and the script. An image that the script names may be any
-- file: it is read before one is written.
abbrev pub IsRunSeparate : Leads → LineFile → (line_file script : List ℕ) → Type 0
IsRunSeparate leads line line_file script = AreSeparate leads (length (written_of None line)) (files_with None line line_file ++ script ∷ [])
