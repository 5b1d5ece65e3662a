use Rattle.std.proofs.Common.{◌≡◌, length}
use Rattle.station_alone.proofs.RoundLaws.{InRound}
use Rattle.station_alone.proofs.rounds.round.Given as goal

abbrev pub invariant-loop-slave : goal.invariant-loop-slave
invariant-loop-slave g l = InRound l.words l.slave l.fn.station l.station × (l.slaves ≡ length l.fn.station.book.slaves)
