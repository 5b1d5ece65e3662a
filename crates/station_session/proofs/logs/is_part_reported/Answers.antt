use Rattle.station_session.proofs.Telling.{reported_own}
use Rattle.station_session.proofs.logs.is_part_reported.Goals as goal

pub returns : goal.returns
returns c is = record {
  log = rw c.is_some.ensures at is;
  own = reported_own c.args.reported.now c.args.part (c.is_of.ensures.0 c.if-not-is_of.false);
}
