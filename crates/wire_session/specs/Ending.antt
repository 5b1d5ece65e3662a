-- How the work on a line that was found on a wire ends.
use Rattle.std.specs.Prelude.{◌≡◌, Result, IfOk, IsErr}
use Rattle.station_text.specs.declared.line_file.LineFile.{LineFile}
use Rattle.station_files.specs.Files.{Known, ChangesAmong}
use Rattle.station_line.specs.Site.{files_of}
use Rattle.wire_faults.specs.declared.faults.WireFault.{WireFault}
use Rattle.site_wire.specs.declared.device.WireLog.{WireLog}
use Rattle.script_session.specs.Running.{IsNoneReported}
use Rattle.wire_session.specs.declared.logs.Worked.{Worked}

-- No other files than the line's changed since before they were opened, each as a new file with what was read of it or of its slave. If the result is
-- `Ok`, the files hold what is said of its value.
pub record EndsOpened {T : Type 0} (saves : T → Type 0) (result : Result T WireFault) (old new : Known) (line : LineFile) : Type 0 where
  pub others : ChangesAmong old new (files_of line)
  pub saved : IfOk result saves

-- It stops before it writes and before the line has a device.
pub record StopsBefore {T : Type 0} (worked : Worked T WireLog) (old new : Known) : Type 0 where
  pub failed : IsErr worked.ended
  pub none : IsNoneReported worked.reported
  pub same : new ≡ old
