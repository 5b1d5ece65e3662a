use Rattle.std.proofs.Common.{length}
use Rattle.sii_image.proofs.Sums.{Adding}
use Rattle.sii_image.proofs.process_data.add_pdos.Given as goal

abbrev pub invariant-loop-head : goal.invariant-loop-head
invariant-loop-head l = Adding l.content l.fn.sums l.sums l.rest

abbrev pub decreases-loop-head : goal.decreases-loop-head
decreases-loop-head l = length l.rest
