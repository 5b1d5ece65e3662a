use Rattle.std.proofs.Common.{length, ◌-◌}
use Rattle.book_model.specs.Queue.{Cursor}
use Rattle.book_model.proofs.due.first_due.Given as goal

abbrev pub invariant-loop-place : goal.invariant-loop-place
invariant-loop-place l = Cursor l.place l.namings l.words

abbrev pub decreases-loop-place : goal.decreases-loop-place
decreases-loop-place l = length l.namings - l.place
