-- `run` and `recover`: what is read from the files of a line, how the station starts, and what the files hold in the end.
use Rattle.std.specs.Prelude.{◌≡◌, Bool, false, List, [], Some, unwrap_or, ℕ, ⊤, slice_get, IsSomeAnd, IsTrue}
use Rattle.sii_edit.specs.declared.command.Command.{Command}
use Rattle.site_core.specs.State.{Seen, State}
use Rattle.site_shadow.specs.Site.{SiteValue}
use Rattle.site_file.specs.declared.asking.FileLog.{FileLog}
use Rattle.site_file.specs.declared.asking.LineFile.TheVariants.{Image}
use Rattle.site_file.specs.Files.{BecomesBy, File}
use Rattle.site_file.specs.Held.{of_file}
use Rattle.book_model.specs.Book.{Book}
use Rattle.kept_files.specs.KeptFiles.{HasContents, has_file, holding}
use Rattle.site_journal.specs.declared.fault.ReadFault.TheVariants as read
use Rattle.station_alone.specs.declared.fault.OpenFault.{OpenFault}
use Rattle.station_alone.specs.declared.fault.OpenFault.TheVariants as why
use Rattle.station_text.specs.declared.line_file.LineFile.{LineFile}
use Rattle.station_files.specs.Faults.{IsFaultless}
use Rattle.station_files.specs.Files.{Known, ChangesAmong}
use Rattle.station_files.specs.FileNames.{IsLineSeparate}
use Rattle.station_files.specs.Locations.{Leads}
use Rattle.station_files.specs.ScriptFiles.{SpellsCommands}
use Rattle.station_files.specs.declared.faults.ExitStatus.{ExitStatus}
use Rattle.station_files.specs.declared.faults.ExitStatus.TheVariants.{Done}
use Rattle.station_line.specs.Answers.{AnswersGive}
use Rattle.station_line.specs.Opened.{Loads}
use Rattle.script_session.specs.declared.logs.LineLog.{LineLog}
use Rattle.script_session.specs.declared.logs.PartLog.{PartLog}
use Rattle.script_session.specs.After.{SavesRecovered}
use Rattle.script_session.specs.Running.{IsNoneReported, whole_of}
use Rattle.script_session.specs.Saving.{SavesRun}
use Rattle.station_session.specs.declared.run.Ran.{Ran}
use Rattle.station_session.specs.RunFiles.{IsAllReported, RecoveryKeepsFiles}
use Rattle.station_line.specs.Validating.{HasJournal, IsRunSeparate}
use Rattle.station_line.specs.Site.{files_of}

-- ---- what is read

-- the journal was read, and its content was refused
abbrev pub IsRefusal : OpenFault → Type 0
IsRefusal (why.Journal (read.Journal fault)) = ⊤
IsRefusal fault = ⊥

-- ---- what the files hold in the end

-- the image of a slave, by what is told of a device
abbrev pub ImageBecomes : (slave : ℕ) → FileLog → File → File → Type 0
ImageBecomes slave reported old new = BecomesBy (of_file (Image slave) (unwrap_or reported.calls [])) old new

-- Each image has the contents, by what was asked of it since the files held the state before: as the station was opened, at the desk by the device of
-- its slave, and after it.
abbrev pub HaveContents : (before : State) → Book → LineLog FileLog → Type 0
HaveContents before book whole = (slave : ℕ) → IsTrue (has_file before (Image slave))
    → (part : PartLog FileLog) × (slice_get whole.desk.slaves.items slave ≡ Some part)
    × ((opened left later : File) → ImageBecomes slave whole.desk.line.reported (holding before (Image slave)) opened
    → ImageBecomes slave part.reported opened left → ImageBecomes slave whole.after left later → HasContents book (Image slave) later)

-- No other files than the line's changed. If the recovery began, what a power cut has left in them is kept, as far as it came; otherwise no file was asked
-- anything. If the status is `Done`, they hold the state of a complete recovery; by what was asked of the open files, that alone has left the contents in
-- them.
pub record EndsRecovery (F : Type 0) (old new : Known) (line : LineFile) (before : Seen) (ran : Ran) : Type 0 where
  pub others : ChangesAmong old new (files_of line)
  pub kept : IsTrue ran.is_begun → RecoveryKeepsFiles F before ran.status ran.reported
  pub unbegun : ran.is_begun ≡ false → IsNoneReported ran.reported
  pub saved : ran.status ≡ Done → IsAllReported ran.reported
      × SavesRecovered (λ s. IsSomeAnd (whole_of ran.reported.desk ran.reported.after) (HaveContents before.state s.book)) new line before

-- The line was read, its files stand apart, its journal is one, and it was recovered as far as the status says.
pub record RecoversFiles (F : Type 0) (leads : Leads) (old new : Known) (name : List ℕ) (ran : Ran) : Type 0 where
  pub line : LineFile
  pub site : SiteValue
  pub loaded : Loads old name line site
  pub separate : IsLineSeparate leads line name
  pub journal : HasJournal site.line.sizes site.seen.state.disk.bytes
  pub ends : EndsRecovery F old new line site.seen ran

-- No other files than the line's changed. If no fault ended the run, they hold the state that it reached on this site, and the answers to its commands
-- give the status.
pub record EndsRun (is_cut : Bool) (old new : Known) (line : LineFile) (site : SiteValue) (commands : List Command)
    (status : ExitStatus) : Type 0 where
  pub others : ChangesAmong old new (files_of line)
  pub saved : IsFaultless status → AnswersGive (SavesRun is_cut new line site commands) status

-- The line and the script were read, their files stand apart, the journal is one, and the commands were run as far as the status says.
pub record RunsFiles (leads : Leads) (is_cut : Bool) (old new : Known) (name script : List ℕ) (status : ExitStatus) : Type 0 where
  pub line : LineFile
  pub site : SiteValue
  pub loaded : Loads old name line site
  pub separate : IsRunSeparate leads line name script
  pub journal : HasJournal site.line.sizes site.seen.state.disk.bytes
  pub commands : List Command
  pub spelt : SpellsCommands old script commands
  pub ends : EndsRun is_cut old new line site commands status
