use Rattle.std.proofs.Common.{◌+◌, drop}
use Rattle.sii_image.specs.ProcessImage.{slave_rows}
use Rattle.sii_image.proofs.Placing.{places_more, slave_rows-taken, slave_rows-left}
use Rattle.sii_image.proofs.placement.Placement.add_slave.Goals.{then-row-output+in_ok-add, else-row-output}
use Rattle.sii_image.proofs.placement.Placement.add_slave.Goals as goal

pub loop-row-preserved : goal.loop-row-preserved
loop-row-preserved c =
    let rows = c.args.rows.now in
    let all = slave_rows c.args.output (c.args.slave, rows) in
    let rest = slave_rows c.args.output (c.args.slave, drop (c.loop-row.row-index + 1) rows) in
    elim c.if-row-output.branch [
      | then-row-output+in_ok-add w ↦
          rw w.self-is (places_more c.args.self.now c.loop-row.self w.add.new.self all _ rest
          (rw (slave_rows-taken c.args.output c.args.slave rows c.loop-row.row-index _ c.loop-row-test.true w.if-row-output.true) at c.loop-row.invariant) w.in_ok-add.ensures)
      | else-row-output w ↦
          rw w.self-is (rw (slave_rows-left c.args.output c.args.slave rows c.loop-row.row-index _ c.loop-row-test.true w.if-row-output.false) at c.loop-row.invariant)
    ]
