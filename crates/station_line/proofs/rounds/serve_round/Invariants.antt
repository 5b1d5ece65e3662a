use Rattle.std.proofs.Common.{[]}
use Rattle.station_line.specs.Rounds.{Goes}
use Rattle.station_line.proofs.rounds.serve_round.Given as goal

abbrev pub invariant-loop-slave : goal.invariant-loop-slave
invariant-loop-slave g l = Goes [] l.fn.alone l.alone
