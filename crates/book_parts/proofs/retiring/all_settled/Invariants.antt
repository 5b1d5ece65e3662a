use Rattle.std.proofs.Common.{◌≡◌, true, take}
use Rattle.book_parts.specs.Works.{all_older_settled}
use Rattle.book_parts.proofs.retiring.all_settled.Given as goal

abbrev pub invariant-loop-at : goal.invariant-loop-at
invariant-loop-at l = all_older_settled (take l.at l.works) ≡ true
