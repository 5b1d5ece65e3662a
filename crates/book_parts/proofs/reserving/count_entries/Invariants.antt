use Rattle.std.proofs.Common.{take}
use Rattle.book_model.specs.Entries.{runs_of}
use Rattle.book_parts.specs.Works.{Counted}
use Rattle.book_parts.proofs.reserving.count_entries.Given as goal

abbrev pub invariant-loop-entry : goal.invariant-loop-entry
invariant-loop-entry l = Counted l.initial.counts l.counts (runs_of (take l.entry-index l.entries))
