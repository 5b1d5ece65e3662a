use Rattle.book_core.proofs.FoundLaws.{IsAhead}
use Rattle.book_core.proofs.taking.join_half.Given as goal

abbrev pub invariant-loop-at : goal.invariant-loop-at
invariant-loop-at l = IsAhead l.spot l.initial.batches l.batches l.initial.work l.work l.at
