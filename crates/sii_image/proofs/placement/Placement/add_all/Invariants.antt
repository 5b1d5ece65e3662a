use Rattle.std.proofs.Common.{drop}
use Rattle.sii_image.specs.ProcessImage.{rows_towards}
use Rattle.sii_image.proofs.Placing.{Placing, rows_after}
use Rattle.sii_image.proofs.placement.Placement.add_all.Given as goal

abbrev pub invariant-loop-number : goal.invariant-loop-number
invariant-loop-number l = Placing l.fn.self l.self (rows_towards l.output l.slaves) (rows_after l.output l.number (drop l.number l.slaves))
