use Rattle.std.proofs.Common.{length}
use Rattle.ecat_frame.proofs.SoFar.{IsReadSoFar}
use Rattle.ecat_frame.proofs.frame.Frame.read.Given as goal

abbrev pub invariant-loop-more : goal.invariant-loop-more
invariant-loop-more l = IsReadSoFar l.inside l.rest l.frame l.more

abbrev pub decreases-loop-more : goal.decreases-loop-more
decreases-loop-more l = length l.rest
