use Rattle.std.proofs.Common.{take}
use Rattle.book_parts.specs.Works.{Counted}
use Rattle.book_parts.proofs.reserving.count_entry.Given as goal

abbrev pub invariant-loop-run : goal.invariant-loop-run
invariant-loop-run l = Counted l.initial.counts l.counts (take l.run-index l.entry.runs)
