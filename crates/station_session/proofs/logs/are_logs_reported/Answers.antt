use Rattle.std.proofs.Common.{subst}
use Rattle.station_session.specs.RunFiles.{AreSlavesReported}
use Rattle.station_session.proofs.logs.are_logs_reported.Goals as goal

pub returns : goal.returns
returns c is = record {
  line = rw c.is_some.ensures at is;
  disk = c.is_part_reported.ensures c.if-not-is_part_reported.false;
  slaves = subst AreSlavesReported c.as_slice.ensures.value (c.are_slaves_reported.ensures c.if-not-are_slaves_reported.false);
}
