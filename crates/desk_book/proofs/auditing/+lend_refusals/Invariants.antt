use Rattle.std.proofs.Common.{length}
use Rattle.desk_book.proofs.auditing.+lend_refusals.Given as goal

abbrev pub decreases-lend_refusals : goal.decreases-lend_refusals
decreases-lend_refusals g l = length l.shares.now
