use Rattle.std.proofs.Common.{◌≡◌, ℕ, ◌<◌, Some, slice_get}
use Rattle.site_shadow.specs.declared.lending.LinePart.TheVariants as part
use Rattle.script_session.specs.declared.logs.PartLog.{PartLog}
use Rattle.wire_session.proofs.logs.are_of_slaves.Given as goal

abbrev pub invariant-loop-slave : goal.invariant-loop-slave
invariant-loop-slave g l =
    (slave : ℕ) (reported : PartLog _) → slave < l.slave → slice_get l.parts slave ≡ Some reported → g.D.TellsPart.is_of (part.Slave slave) reported.reported
