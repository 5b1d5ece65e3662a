use Rattle.std.proofs.Common.{◌≤◌}
use Rattle.book_model.specs.Queue.{IsAfter, word_at}
use Rattle.book_model.proofs.due.mark_after.Given as goal

abbrev pub invariant-loop-place : goal.invariant-loop-place
invariant-loop-place l = record {
  after : IsAfter l.namings l.at l.value l.place;
  below : l.place ≤ (word_at l.words l.at).end;
}

abbrev pub decreases-loop-place : goal.decreases-loop-place
decreases-loop-place l = l.place
