use Rattle.std.proofs.Common.{length}
use Rattle.desk_book.proofs.auditing.+lend_tickets.Given as goal

abbrev pub decreases-lend_tickets : goal.decreases-lend_tickets
decreases-lend_tickets g l = length l.shares.now
