use Rattle.std.proofs.Common.{◌≡◌, ◌<◌, ℕ, Some}
use Rattle.std.specs.Prelude.{slice_get}
use Rattle.desk_book.specs.declared.ticket.Receipt.{Receipt}
use Rattle.desk_book.proofs.counting.are_rising.Given as goal

abbrev pub invariant-loop-i : goal.invariant-loop-i
invariant-loop-i l = record {
  below : (k : ℕ) (other : Receipt) → k < l.i → slice_get l.receipts k ≡ Some other → other.number < l.least;
  separate : (i k : ℕ) (one other : Receipt) → i < l.i → slice_get l.receipts i ≡ Some one → slice_get l.receipts k ≡ Some other → k < i → other.number < one.number;
}
