use Rattle.std.proofs.Common.{◌≡◌, []}
use Rattle.station_line.specs.Rounds.{Goes}
use Rattle.station_line.proofs.commands.submit_one.Given as goal

abbrev pub invariant-loop-round : goal.invariant-loop-round
invariant-loop-round g l = record {
  goes : Goes [] l.fn.alone l.alone;
  same : l.answered ≡ l.fn.answered;
}
