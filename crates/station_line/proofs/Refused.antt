-- Why a line isn't formatted, run or recovered.
use Rattle.std.proofs.Common.{◌≡◌, ◌≢◌, ℕ, ◌+◌, ◌^◌, List, Option, Some, None, IfSome, IsSomeAnd, string_bytes, subst, inl, inr, refl, sym}
use Rattle.std.specs.Prelude.{⊤, IfErr, IsErrAnd, Result, Ok, Err}
use Rattle.station_files.specs.Files.{Known, Holds, IsEntryOf, RefusesFile}
use Rattle.station_files.specs.declared.store.Entry.{Entry}
use Rattle.station_files.specs.declared.store.Entry.TheVariants.{Absent, Other}
use Rattle.station_files.specs.declared.store.Entry.TheVariants as entries
use Rattle.station_files.specs.Faults.{IsOfLock, IsOfStream}
use Rattle.station_files.specs.FileNames.{RefusesLineNames}
use Rattle.station_files.specs.LineFiles.{RefusesPlant, SpellsLine}
use Rattle.station_files.specs.Locations.{Leads}
use Rattle.station_files.specs.declared.store.LockFault.{LockFault}
use Rattle.station_files.specs.declared.store.LockFault.TheVariants as locks
use Rattle.station_text.specs.declared.line_file.LineFile.{LineFile}
use Rattle.station_files.specs.declared.faults.Fault.{Fault}
use Rattle.station_files.specs.declared.faults.Fault.TheVariants.{OddLength, BadSize, ImageOverLimit, Memory, Disk, Lost, Stopped, SlaveDead}
use Rattle.station_files.specs.declared.faults.Fault.TheVariants.{NotAJournal, BadVersion, BadJournal, WrongLine, Unserved, File, BadHex, BadLine}
use Rattle.station_files.specs.declared.faults.Fault.TheVariants.{BadScript, Exists, Busy, SameFile, NotAFile, TooLong, OtherDevice}
use Rattle.station_line.specs.Init.{RefusesUnformatted}
use Rattle.station_line.specs.Refusals.{RefusesJournalFile, RefusesSession}

-- a line that is refused isn't formatted
pub line_refused : (files : Known) (leads : Leads) (name : List ℕ) (fault : Fault) → RefusesPlant files name fault → RefusesUnformatted files leads name fault
line_refused files leads name Exists (inl line) = absurd line
line_refused files leads name Exists (inr slaves) = absurd slaves.2.bad
line_refused files leads name File refused = tt
line_refused files leads name OddLength refused = refused
line_refused files leads name BadSize refused = refused
line_refused files leads name ImageOverLimit refused = refused
line_refused files leads name Memory refused = refused
line_refused files leads name Disk refused = refused
line_refused files leads name Lost refused = refused
line_refused files leads name Stopped refused = refused
line_refused files leads name (SlaveDead slave) refused = refused
line_refused files leads name NotAJournal refused = refused
line_refused files leads name (BadVersion found) refused = refused
line_refused files leads name (BadJournal at) refused = refused
line_refused files leads name WrongLine refused = refused
line_refused files leads name Unserved refused = refused
line_refused files leads name BadHex refused = refused
line_refused files leads name BadLine refused = refused
line_refused files leads name (BadScript command) refused = refused
line_refused files leads name Busy refused = refused
line_refused files leads name NotAFile refused = refused
line_refused files leads name TooLong refused = refused
line_refused files leads name OtherDevice refused = refused
line_refused files leads name SameFile (inl line) = absurd line
line_refused files leads name SameFile (inr slaves) = absurd slaves.2.bad

-- files that are one aren't formatted
pub names_refused : (files : Known) (leads : Leads) (name : List ℕ) (line : LineFile) (fault : Fault) → SpellsLine files name line → RefusesLineNames leads line name fault → RefusesUnformatted files leads name fault
names_refused files leads name line fault spelt (inl clash) =
    subst (RefusesUnformatted files leads name) (sym clash.is) (line, spelt, inl (record { clash = clash.clash; clashes = clash.clashes; is = refl }))
names_refused files leads name line fault spelt (inr (inl is)) = subst (RefusesUnformatted files leads name) (sym is) tt
names_refused files leads name line fault spelt (inr (inr is)) = subst (RefusesUnformatted files leads name) (sym is) (inl tt)

-- a line that is refused is no session
pub plant_refused : (files : Known) (leads : Leads) (name : List ℕ) (fault : Fault) → RefusesPlant files name fault → RefusesSession files leads name fault
plant_refused files leads name Busy (inl line) = absurd line
plant_refused files leads name Busy (inr slaves) = absurd slaves.2.bad
plant_refused files leads name SameFile (inl line) = absurd line
plant_refused files leads name SameFile (inr slaves) = absurd slaves.2.bad
plant_refused files leads name File refused = tt
plant_refused files leads name Memory refused = tt
plant_refused files leads name OddLength refused = refused
plant_refused files leads name BadSize refused = refused
plant_refused files leads name ImageOverLimit refused = refused
plant_refused files leads name Disk refused = refused
plant_refused files leads name Lost refused = refused
plant_refused files leads name Stopped refused = refused
plant_refused files leads name (SlaveDead slave) refused = refused
plant_refused files leads name NotAJournal refused = refused
plant_refused files leads name (BadVersion found) refused = refused
plant_refused files leads name (BadJournal at) refused = refused
plant_refused files leads name WrongLine refused = refused
plant_refused files leads name Unserved refused = refused
plant_refused files leads name BadHex refused = refused
plant_refused files leads name BadLine refused = refused
plant_refused files leads name (BadScript command) refused = refused
plant_refused files leads name Exists refused = refused
plant_refused files leads name NotAFile refused = inl refused
plant_refused files leads name TooLong refused = inl refused
plant_refused files leads name OtherDevice refused = refused

-- nor are files of which two are one
pub same_refused : (files : Known) (leads : Leads) (name : List ℕ) (line : LineFile) (fault : Fault) → SpellsLine files name line → RefusesLineNames leads line name fault → RefusesSession files leads name fault
same_refused files leads name line fault spelt (inl clash) =
    subst (RefusesSession files leads name) (sym clash.is) (line, spelt, inl (record { clash = clash.clash; clashes = clash.clashes; is = refl }))
same_refused files leads name line fault spelt (inr (inl is)) = subst (RefusesSession files leads name) (sym is) tt
same_refused files leads name line fault spelt (inr (inr is)) = subst (RefusesSession files leads name) (sym is) tt

pub stream_refused : (files : Known) (leads : Leads) (name : List ℕ) (fault : Fault) → IsOfStream fault → RefusesSession files leads name fault
stream_refused files leads name fault (inl is) = subst (RefusesSession files leads name) (sym is) tt
stream_refused files leads name fault (inr is) = subst (RefusesSession files leads name) (sym is) tt

-- nor is a line whose journal isn't read
pub journal_unread : (files read : Known) (leads : Leads) (name spelt : List ℕ) (line : LineFile) (fault : Fault) → SpellsLine files name line → read ≡ files → spelt ≡ string_bytes line.journal → RefusesFile (8 + 2 ^ 22) read spelt fault → RefusesSession files leads name fault
journal_unread files read leads name spelt line fault described same named refused =
    let P : Known → Type 0 = λ known. RefusesFile (8 + 2 ^ 22) known spelt fault in
    let Q : List ℕ → Type 0 = λ n. RefusesFile (8 + 2 ^ 22) files n fault in
    unread fault (record { line = line; described = described; refused = subst Q named (subst P same refused) }) where
      unread : (fault : Fault) → RefusesJournalFile files name fault → RefusesSession files leads name fault
      unread File it = tt
      unread Memory it = tt
      unread NotAFile it = inr it
      unread TooLong it = inr it
      unread other it = absurd it.refused

-- nor is a line whose journal isn't locked
pub lock_refused : (files : Known) (leads : Leads) (name : List ℕ) (line : LineFile) (why : LockFault) (fault : Fault) → SpellsLine files name line → IsOfLock why fault → RefusesSession files leads name fault
lock_refused files leads name line locks.Busy fault spelt is = subst (RefusesSession files leads name) (sym is) (line, spelt)
lock_refused files leads name line (locks.Io error) fault spelt is = stream_refused files leads name fault is

-- the error of a call, as it is handed on
pub handed_by : {A : Type 0} (P Q : Fault → Type 0) (result : Result A Fault) → ((fault : Fault) → Q fault → P fault) → IsErrAnd result Q → IfErr result P
handed_by P Q (Ok x) follows gave = tt
handed_by P Q (Err fault) follows gave = follows fault gave

-- where something is under a name, the file of this name exists, as far as it is known
pub is_there : (old new : Known) (name spelt : List ℕ) (entry : Entry) → new ≡ old → spelt ≡ name → entry ≢ Absent → IfSome (new spelt) (λ held. IsEntryOf held entry) → Holds old name (λ b. ⊤)
is_there old new name spelt entry same named is held =
    let P : Known → Type 0 = λ files. IfSome (files spelt) (λ h. IsEntryOf h entry) in
    let Q : List ℕ → Type 0 = λ n. IfSome (old n) (λ h. IsEntryOf h entry) in
    there (old name) entry is (subst Q named (subst P same held)) where
      there : (kept : Option (Option (List ℕ))) (entry : Entry) → entry ≢ Absent → IfSome kept (λ h. IsEntryOf h entry) → IfSome kept (λ h. IsSomeAnd h (λ b. ⊤))
      there (Some (Some bytes)) entry is held = tt
      there (Some None) Absent is held = absurd (is refl)
      there (Some None) (entries.File count) is held = held
      there (Some None) Other is held = held
      there None entry is held = tt
