use Rattle.std.proofs.Common.{◌+◌, drop}
use Rattle.sii_image.specs.ProcessImage.{rows_towards}
use Rattle.sii_image.proofs.Placing.{places_more, rows_after, rows_after-next}
use Rattle.sii_image.proofs.placement.Placement.add_all.Goals as goal

pub loop-number-preserved : goal.loop-number-preserved
loop-number-preserved c =
    let slaves = c.args.slaves.now in
    let number = c.loop-number.number in
    let output = c.args.output in
    places_more c.args.self.now c.loop-number.self c.add_slave.new.self (rows_towards output slaves) _ (rows_after output (number + 1) (drop (number + 1) slaves))
    (rw (rows_after-next output slaves number c.index-slaves-number.result c.loop-number-test.true) at c.loop-number.invariant)
    (rw (c.rows.ensures, c.index-slaves-number.is) at c.in_ok-add_slave.ensures)
