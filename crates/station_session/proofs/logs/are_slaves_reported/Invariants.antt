use Rattle.std.proofs.Common.{◌≡◌, ℕ, ◌<◌, Some, slice_get}
use Rattle.site_file.specs.declared.asking.FileLog.{FileLog}
use Rattle.site_shadow.specs.declared.lending.LinePart.TheVariants as parts
use Rattle.script_session.specs.declared.logs.PartLog.{PartLog}
use Rattle.station_session.specs.RunFiles.{IsPartReported}
use Rattle.station_session.proofs.logs.are_slaves_reported.Given as goal

abbrev pub invariant-loop-place : goal.invariant-loop-place
invariant-loop-place l =
    (slave : ℕ) (part : PartLog FileLog) → slave < l.place → slice_get l.reported slave ≡ Some part → IsPartReported (parts.Slave slave) part.reported
