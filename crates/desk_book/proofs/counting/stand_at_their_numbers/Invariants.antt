use Rattle.std.proofs.Common.{◌<◌, ℕ}
use Rattle.std.specs.Prelude.{slice_index_or}
use Rattle.desk_book.specs.declared.ticket.Receipt.{Receipt}
use Rattle.desk_book.specs.Closing.{StandsAt}
use Rattle.desk_book.proofs.counting.stand_at_their_numbers.Given as goal

abbrev pub invariant-loop-i : goal.invariant-loop-i
invariant-loop-i l = (k : ℕ) (d : Receipt) → k < l.i → StandsAt l.commands l.durable (slice_index_or l.receipts k d)
