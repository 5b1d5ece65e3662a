use Rattle.site_journal.specs.Left.{calls_left}
use Rattle.station_alone.specs.Rounds.{Works}
use Rattle.station_alone.proofs.rounds.redo.Given as goal

abbrev pub invariant-loop-station : goal.invariant-loop-station
invariant-loop-station g l = Works l.words l.fn.station l.station

abbrev pub decreases-loop-station : goal.decreases-loop-station
decreases-loop-station g l = calls_left l.station.book
