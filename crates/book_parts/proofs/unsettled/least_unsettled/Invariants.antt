use Rattle.std.proofs.Common.{◌≡◌, map, take}
use Rattle.book_parts.specs.Works.{unsettled_of, least, OweLive}
use Rattle.book_parts.proofs.unsettled.least_unsettled.Given as goal

abbrev pub invariant-loop-work : goal.invariant-loop-work
invariant-loop-work l = record {
  number : l.least ≡ least (map unsettled_of (take l.work-index l.works));
  owed : OweLive l.works l.work-index;
}
