use Rattle.std.proofs.Common.{◌≡◌, ◌≢◌, ◌<◌, ℕ, Some}
use Rattle.std.specs.Prelude.{slice_get}
use Rattle.desk_book.specs.declared.ticket.Receipt.{Receipt}
use Rattle.desk_book.proofs.counting.has_number.Given as goal

abbrev pub invariant-loop-k : goal.invariant-loop-k
invariant-loop-k l = (j : ℕ) (r : Receipt) → j < l.k → slice_get l.receipts j ≡ Some r → r.number ≢ l.number
