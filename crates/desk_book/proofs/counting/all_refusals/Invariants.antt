use Rattle.std.proofs.Common.{◌≡◌, take}
use Rattle.std.specs.Prelude.{sum_by}
use Rattle.desk_book.specs.Serving.{ShareCounts}
use Rattle.desk_book.proofs.counting.all_refusals.Given as goal

abbrev pub invariant-loop-i : goal.invariant-loop-i
invariant-loop-i g l = l.sum ≡ sum_by (λ (s : ShareCounts). s.refusals) (take l.i l.shares)
