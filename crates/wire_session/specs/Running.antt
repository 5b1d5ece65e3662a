-- `run` on a wire: how the line that was found is served by threads, and what the files hold in the end.
use Rattle.std.specs.Prelude.{◌≡◌, ◌⊎◌, ◌++◌, ℕ, false, List, length, map, IsTrue}
use Rattle.sii_edit.specs.declared.command.Command.{Command}
use Rattle.site_shadow.specs.Site.{SiteValue}
use Rattle.station_text.specs.declared.line_file.LineFile.{LineFile}
use Rattle.station_files.specs.Files.{Known}
use Rattle.station_files.specs.ScriptFiles.{SpellsCommands}
use Rattle.station_files.specs.declared.faults.ExitStatus.{ExitStatus}
use Rattle.station_files.specs.FileNames.{IsLineSeparate}
use Rattle.station_files.specs.Locations.{Leads}
use Rattle.station_line.specs.Validating.{HasJournal, IsRunSeparate}
use Rattle.station_line.specs.Answers.{AnswersGive}
use Rattle.station_line.specs.Site.{IsSiteOf}
use Rattle.script_session.specs.Saving.{SavesRun}
use Rattle.wire_scan.specs.Keeping.{AreMends, AreOfImages, MendsFiles}
use Rattle.wire_scan.specs.Opening.{IsFound}
use Rattle.wire_scan.specs.declared.asked.Mend.{Mend}
use Rattle.site_wire.specs.declared.device.WireLog.{WireLog}
use Rattle.script_session.specs.declared.logs.RunLog.{RunLog}
use Rattle.wire_session.specs.declared.logs.Worked.{Worked}
use Rattle.wire_session.specs.Ending.{EndsOpened, StopsBefore}
use Rattle.wire_session.specs.Keeping.{KeepsFound}
use Rattle.wire_session.specs.Slaves.{SlavesAreSaved}

-- The files hold the state of a station that was served on a site of slaves with these words and a journal with these bytes, and the answers to the
-- commands give the status. Where threads could be made, so that the commands were submitted at a desk, so do the slaves, by what is told of the devices.
pub record SavesFound (files : Known) (line : LineFile) (plant : List (List ℕ)) (bytes : List ℕ) (commands : List Command)
    (reported : RunLog WireLog) (status : ExitStatus) : Type 0 where
  pub site : SiteValue
  pub made : IsSiteOf plant bytes site
  pub saves : AnswersGive (SavesRun false files line site commands) status
  pub slaves : IsTrue saves.so.serves.is_driven → SlavesAreSaved plant files line reported

-- The same of the words that were found on the wire and the bytes of the journal.
abbrev pub EndsFound : Worked ExitStatus WireLog → Known → Known → LineFile → List (List ℕ) → List ℕ → List Command → Type 0
EndsFound worked old new line plant bytes commands =
    EndsOpened (λ status. SavesFound new line plant bytes commands worked.reported status) worked.ended old new line

-- These are commands that write the words of image files to the slaves of which that was said, and to no others, and then those of the script.
pub record BeginsWithMends (files : Known) (line : LineFile) (said : List Mend) (bytes : List ℕ) (plant : List (List ℕ)) (script : List ℕ)
    (commands : List Command) : Type 0 where
  pub begun : List (List ℕ)
  pub mends : List Command
  pub after : List Command
  pub said_so : AreMends said mends
  pub mended : MendsFiles files line said bytes plant begun mends
  pub spelt : SpellsCommands files script after
  pub all : commands ≡ mends ++ after

-- The line was found, each slave has the words of its image file, but for what was said, the journal is one of its slaves, the script was read, their
-- files stand apart, and the commands were run as far as the result says. What a power cut has left of journal and slaves is kept.
pub record RunsFound (F : Type 0) (worked : Worked ExitStatus WireLog) (said : List Mend) (leads : Leads) (old new : Known) (name script : List ℕ) : Type 0 where
  pub line : LineFile
  pub plant : List (List ℕ)
  pub bytes : List ℕ
  pub found : IsFound old name line plant bytes
  pub validated : HasJournal (map length plant) bytes
  pub kept : AreOfImages old line said bytes plant
  pub commands : List Command
  pub spelt : BeginsWithMends old line said bytes plant script commands
  pub separate : IsRunSeparate leads line name script
  pub ends : EndsFound worked old new line plant bytes commands
  pub keeps : KeepsFound F worked plant bytes commands

-- what `run` does: it stops before that, as where the journal is refused; or it runs the commands
abbrev pub RunsScript : Type 0 → Worked ExitStatus WireLog → List Mend → Leads → Known → Known → List ℕ → List ℕ → Type 0
RunsScript F worked said leads old new name script = StopsBefore worked old new ⊎ RunsFound F worked said leads old new name script

-- The line was found, each slave has the words of its image file, but for what was said, and the image files that were to be written to their slaves were,
-- as commands, as far as the result says. What a power cut has left of journal and slaves is kept.
pub record MendsFound (F : Type 0) (worked : Worked ExitStatus WireLog) (said : List Mend) (leads : Leads) (old new : Known) (name : List ℕ) : Type 0 where
  pub line : LineFile
  pub plant : List (List ℕ)
  pub bytes : List ℕ
  pub found : IsFound old name line plant bytes
  pub validated : HasJournal (map length plant) bytes
  pub kept : AreOfImages old line said bytes plant
  pub begun : List (List ℕ)
  pub mends : List Command
  pub said_so : AreMends said mends
  pub mended : MendsFiles old line said bytes plant begun mends
  pub separate : IsLineSeparate leads line name
  pub ends : EndsFound worked old new line plant bytes mends
  pub keeps : KeepsFound F worked plant bytes mends

-- what `recover` does where image files are to be written to their slaves
abbrev pub MendsLine : Type 0 → Worked ExitStatus WireLog → List Mend → Leads → Known → Known → List ℕ → Type 0
MendsLine F worked said leads old new name = StopsBefore worked old new ⊎ MendsFound F worked said leads old new name
