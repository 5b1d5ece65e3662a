use Rattle.std.proofs.Common.{[]}
use Rattle.station_line.specs.Rounds.{Goes}
use Rattle.station_line.proofs.rounds.serve_all.Given as goal

abbrev pub invariant-loop-round : goal.invariant-loop-round
invariant-loop-round g l = Goes [] l.fn.alone l.alone
