use Rattle.book_parts.specs.Works.{OnlyRooms, HasCounted}
use Rattle.book_parts.proofs.reserving.reserve_all.Given as goal

abbrev pub invariant-loop-at : goal.invariant-loop-at
invariant-loop-at l = record {
  kept : OnlyRooms l.initial.works l.works;
  room : HasCounted l.works l.counts l.at;
}
