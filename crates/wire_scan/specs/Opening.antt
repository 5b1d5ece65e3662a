-- What is found on a wire, and why it isn't taken.
use Rattle.std.specs.Prelude.{◌≡◌, ◌≢◌, ◌≤◌, ◌⊎◌, ℕ, ◌+◌, ◌^◌, List, ◌∷◌, ◌++◌, Option, None, length, map, string_bytes, ⊤}
use Rattle.std.specs.List.{AllZip}
use Rattle.slave_match.specs.declared.comparing.Difference.{Difference}
use Rattle.slave_match.specs.declared.reason.Reason.{Reason}
use Rattle.jrn_format.specs.declared.journal.Journal.{Journal}
use Rattle.jrn_format.specs.declared.fault.JournalFault.{JournalFault}
use Rattle.jrn_format.specs.Fault.{IsFaultOf}
use Rattle.jrn_format.specs.Journal.{IsJournal}
use Rattle.station_text.specs.declared.line_file.LineFile.{LineFile}
use Rattle.station_files.specs.declared.faults.Fault.{Fault}
use Rattle.station_files.specs.declared.faults.Fault.TheVariants.{Busy, File, Memory, NotAFile}
use Rattle.station_files.specs.FileNames.{RefusesLineNames}
use Rattle.station_files.specs.Files.{Known, HasBytes, RefusesFile}
use Rattle.station_files.specs.LineFiles.{RefusesLine, RefusesWords, SpellsLine, names_of}
use Rattle.station_files.specs.Locations.{Leads}
use Rattle.station_line.specs.Faults.{of_journal}
use Rattle.wire_faults.specs.declared.faults.WireFault.{WireFault}
use Rattle.wire_faults.specs.declared.faults.WireFault.TheVariants.{Held, Line, OtherCount, OtherWords, Running, Station}
use Rattle.wire_scan.specs.declared.asked.Mend.{Mend}
use Rattle.wire_scan.specs.Keeping.{IsImageOf, IsRefused}

-- The files spell this line and the bytes of its journal, and as many slaves with these words were found on the wire as the line file
-- names images.
pub record IsFound (files : Known) (name : List ℕ) (line : LineFile) (plant : List (List ℕ)) (bytes : List ℕ) : Type 0 where
  pub described : SpellsLine files name line
  pub journal : HasBytes files (string_bytes line.journal) bytes
  pub count : length plant ≡ length line.images.items

-- ---- the journal

-- these bytes are no journal of slaves with so many words each, for the reason that the fault names, or memory was refused
pub record RefusesBytes (bytes sizes : List ℕ) (fault : Fault) : Type 0 where
  pub why : JournalFault
  pub refused : IsFaultOf bytes sizes why
  pub is : fault ≡ of_journal why

-- the same of the bytes of a line's journal, whose slaves have some words
pub record RefusesJournal (files : Known) (line : LineFile) (fault : Fault) : Type 0 where
  pub plant : List (List ℕ)
  pub bytes : List ℕ
  pub count : length plant ≡ length line.images.items
  pub most : length plant ≤ 64
  pub held : HasBytes files (string_bytes line.journal) bytes
  pub refused : RefusesBytes bytes (map length plant) fault

-- the fault for a journal's file that can't be locked: another station has it, the system fails, memory was refused, or it is no file
abbrev pub RefusesLock : Known → List ℕ → Fault → Type 0
RefusesLock files name Busy = ⊤
RefusesLock files name File = ⊤
RefusesLock files name Memory = ⊤
RefusesLock files name NotAFile = files name ≡ None
RefusesLock files name fault = ⊥

-- ---- the image files, and the slaves

-- this is the fault of the first bad image file: each one before it isn't there, or spells words
pub record RefusesFirst (files : Known) (names : List (List ℕ)) (fault : Fault) : Type 0 where
  pub before : List (List ℕ)
  pub name : List ℕ
  pub after : List (List ℕ)
  pub in_order : names ≡ before ++ name ∷ after
  pub images : List (Option (List ℕ))
  pub good : AllZip (IsImageOf files) before images
  pub bad : RefusesWords files name fault

-- the fault for the image files: memory was refused, or it is that of the first bad one
abbrev pub RefusesImages : Known → List (List ℕ) → Fault → Type 0
RefusesImages files names Memory = ⊤
RefusesImages files names fault = RefusesFirst files names fault

-- the line can't be brought up, or a slave is in a state in which it isn't worked on
abbrev pub IsOfWire : WireFault → Type 0
IsOfWire (Line why) = ⊤
IsOfWire (Running slave) = ⊤
IsOfWire (Held slave) = ⊤
IsOfWire fault = ⊥

-- a slave can't be worked on, or there are others than so many
abbrev pub IsOfSlaves : ℕ → WireFault → Type 0
IsOfSlaves wanted (Line why) = ⊤
IsOfSlaves wanted (OtherCount slaves) = slaves ≢ wanted
IsOfSlaves wanted fault = ⊥

-- A line of slaves with some words, and the journal that its file holds, in which this slave is the first one that is refused.
pub record RefusesSlave (files : Known) (line : LineFile) (mends : List Mend) (images : List (Option (List ℕ))) (slave : ℕ) (difference : Difference) (reason : Reason) : Type 0 where
  pub plant : List (List ℕ)
  pub bytes : List ℕ
  pub journal : Journal
  pub count : length plant ≡ length line.images.items
  pub most : length plant ≤ 64
  pub held : HasBytes files (string_bytes line.journal) bytes
  pub read : IsJournal bytes (map length plant) journal
  pub refused : IsRefused mends journal.batches plant images slave difference reason

-- the same of the line that the files spell
pub record RefusesSlaveOf (files : Known) (name : List ℕ) (mends : List Mend) (slave : ℕ) (difference : Difference) (reason : Reason) : Type 0 where
  pub line : LineFile
  pub images : List (Option (List ℕ))
  pub described : SpellsLine files name line
  pub loaded : AllZip (IsImageOf files) (names_of line) images
  pub read : RefusesSlave files line mends images slave difference reason

-- ---- why a line isn't taken

-- The fault for a line that was brought up: that of its slaves; or the journal's file can't be read, or holds no journal of them; or one of them is refused.
abbrev pub RefusesRead : Known → LineFile → List Mend → List (Option (List ℕ)) → WireFault → Type 0
RefusesRead files line mends images (Station fault) = RefusesFile (8 + 2 ^ 22) files (string_bytes line.journal) fault ⊎ RefusesJournal files line fault
RefusesRead files line mends images (OtherWords slave difference reason) = RefusesSlave files line mends images slave difference reason
RefusesRead files line mends images fault = IsOfSlaves (length line.images.items) fault

-- The fault for the line that the files spell, in the order in which they are read: that of its line file, of the lock, of its names, of its image files,
-- of the wire, or of what was read once it was brought up. So the fault of a journal comes where its file holds none of these slaves, and nowhere else.
pub data RefusesFound (files : Known) (leads : Leads) (name : List ℕ) (mends : List Mend) (fault : WireFault) : Type 0 where
  by_line_file : (cause : Fault) → fault ≡ Station cause → RefusesLine files name cause → RefusesFound files leads name mends fault
  by_lock : (line : LineFile) → SpellsLine files name line → (cause : Fault) → fault ≡ Station cause
      → RefusesLock files (string_bytes line.journal) cause ⊎ RefusesLineNames leads line name cause → RefusesFound files leads name mends fault
  by_image_file : (line : LineFile) → SpellsLine files name line → (cause : Fault) → fault ≡ Station cause → RefusesImages files (names_of line) cause
      → RefusesFound files leads name mends fault
  by_wire : (line : LineFile) → SpellsLine files name line → IsOfWire fault → RefusesFound files leads name mends fault
  by_reading : (line : LineFile) (images : List (Option (List ℕ))) → SpellsLine files name line → AllZip (IsImageOf files) (names_of line) images
      → RefusesRead files line mends images fault → RefusesFound files leads name mends fault

-- what holds of a slave, a difference and a reason, where the fault is that this slave has other words
abbrev pub IfOtherWords : (ℕ → Difference → Reason → Type 0) → WireFault → Type 0
IfOtherWords Refuses fault = (slave : ℕ) (difference : Difference) (reason : Reason) → fault ≡ OtherWords slave difference reason → Refuses slave difference reason

-- it is another fault
abbrev pub IsOtherFault : WireFault → Type 0
IsOtherFault fault = (slave : ℕ) (difference : Difference) (reason : Reason) → fault ≢ OtherWords slave difference reason
