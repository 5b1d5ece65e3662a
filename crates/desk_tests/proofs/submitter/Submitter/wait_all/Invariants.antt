use Rattle.std.proofs.Common.{length}
use Rattle.desk_tests.proofs.submitter.Submitter.wait_all.Given as goal

abbrev pub decreases-loop-ticket : goal.decreases-loop-ticket
decreases-loop-ticket g l = length l.self.tickets.items
