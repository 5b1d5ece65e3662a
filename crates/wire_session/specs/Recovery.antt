-- `init` and `recover` on a wire: what the files hold in the end.
use Rattle.std.specs.Prelude.{◌≡◌, ◌⊎◌, ℕ, List, map, length, string_bytes, Result, ⊤}
use Rattle.site_core.specs.State.{Seen}
use Rattle.station_text.specs.declared.line_file.LineFile.{LineFile}
use Rattle.station_files.specs.Files.{Known, Holds}
use Rattle.station_files.specs.FileNames.{IsLineSeparate}
use Rattle.station_files.specs.LineFiles.{SpellsLine, SpellsSlaves}
use Rattle.station_files.specs.Locations.{Leads}
use Rattle.station_alone.specs.Station.{Station}
use Rattle.station_line.specs.Init as bench
use Rattle.station_line.specs.Validating.{HasJournal}
use Rattle.station_line.specs.Site.{switched_on}
use Rattle.wire_faults.specs.declared.faults.WireFault.{WireFault}
use Rattle.wire_faults.specs.declared.faults.WireFault.TheVariants as wire
use Rattle.wire_scan.specs.Backup.{IsWithoutPast}
use Rattle.wire_scan.specs.Keeping.{AreOfImages}
use Rattle.wire_scan.specs.Opening.{IsFound}
use Rattle.wire_scan.specs.declared.asked.Mend.{Mend}
use Rattle.site_wire.specs.declared.device.WireLog.{WireLog}
use Rattle.script_session.specs.After.{SavesRecovered}
use Rattle.wire_session.specs.declared.logs.Worked.{Worked}
use Rattle.wire_session.specs.Ending.{EndsOpened, StopsBefore}
use Rattle.wire_session.specs.Keeping.{KeepsRecovered}
use Rattle.wire_session.specs.Slaves.{AllHold}

-- If the result is `Ok`, the files hold the state of a complete recovery of this site, and so do the slaves.
abbrev pub EndsOpenedRecovery : (Station → Type 0) → Result (Unit {0}) WireFault → Known → Known → LineFile → Seen → Type 0
EndsOpenedRecovery Hold result old new line before = EndsOpened (λ done. SavesRecovered Hold new line before) result old new line

-- The line was found, each slave has the words of its image file, but for what was said, the journal is one of these slaves, its files stand apart, and
-- the site of the words on the wire and the journal's bytes was recovered as far as the result says: the slaves too, by what is told of the devices. What
-- a power cut has left of journal and slaves is kept.
pub record RecoversFound (F : Type 0) (worked : Worked (Unit {0}) WireLog) (said : List Mend) (leads : Leads) (old new : Known) (name : List ℕ) : Type 0 where
  pub line : LineFile
  pub plant : List (List ℕ)
  pub bytes : List ℕ
  pub found : IsFound old name line plant bytes
  pub validated : HasJournal (map length plant) bytes
  pub kept : AreOfImages old line said bytes plant
  pub separate : IsLineSeparate leads line name
  pub ends : EndsOpenedRecovery (AllHold plant worked.reported) worked.ended old new line (switched_on plant bytes)
  pub keeps : KeepsRecovered F worked plant bytes

-- what `recover` does: it stops before it writes and before the line has a device, as where the journal is refused; or it recovers the line
abbrev pub Recovers : Type 0 → Worked (Unit {0}) WireLog → List Mend → Leads → Known → Known → List ℕ → Type 0
Recovers F worked said leads old new name = StopsBefore worked old new ⊎ RecoversFound F worked said leads old new name

-- `init` is refused as by the station, or before: then nothing was written.
abbrev pub RefusesInit : Known → Known → Leads → List ℕ → WireFault → Type 0
RefusesInit old new leads name (wire.Station fault) = (new ≡ old) ⊎ bench.RefusesInit old new leads name fault
RefusesInit old new leads name fault = new ≡ old

-- The files spell a line and the words of its slaves, and its journal's file holds an empty journal of them.
pub record IsBegun (files : Known) (name : List ℕ) : Type 0 where
  pub line : LineFile
  pub plant : List (List ℕ)
  pub described : SpellsLine files name line
  pub slaves : SpellsSlaves files line plant
  pub journal : Holds files (string_bytes line.journal) (λ bytes. IsWithoutPast bytes (map length plant))

-- an empty journal of the line is made, or it was there and no file has changed
abbrev pub BeginsJournal : Known → Known → List ℕ → Type 0
BeginsJournal old new name = bench.Formats ⊤ old new name ⊎ ((new ≡ old) × IsBegun old name)
