use Rattle.std.proofs.Common.{drop}
use Rattle.sii_image.specs.ProcessImage.{slave_rows}
use Rattle.sii_image.proofs.Placing.{Placing}
use Rattle.sii_image.proofs.placement.Placement.add_slave.Given as goal

abbrev pub invariant-loop-row : goal.invariant-loop-row
invariant-loop-row l = Placing l.fn.self l.self (slave_rows l.output (l.slave, l.rows)) (slave_rows l.output (l.slave, drop l.row-index l.rows))
