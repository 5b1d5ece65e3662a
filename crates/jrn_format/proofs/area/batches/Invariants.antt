use Rattle.std.proofs.Common.{length}
use Rattle.jrn_format.proofs.AreaReading.{Going}
use Rattle.jrn_format.proofs.area.batches.Given as goal

abbrev pub invariant-loop-batches : goal.invariant-loop-batches
invariant-loop-batches l = Going l.spelling l.half l.sizes l.end l.area l.batches.items l.rest

abbrev pub decreases-loop-batches : goal.decreases-loop-batches
decreases-loop-batches l = length l.rest
