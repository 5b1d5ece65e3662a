use Rattle.station_files.proofs.Separate.{none_yet}
use Rattle.station_files.proofs.same_files.first_met.Goals as goal

pub loop-at-preserved : goal.loop-at-preserved
loop-at-preserved c =
    none_yet c.args.one.now c.args.others.now c.loop-at.at c.index-others-at.result c.loop-at-test.true c.index-others-at.is c.loop-at.invariant
    (λ meets. cc (c.meets.ensures.1 meets, c.if-meets.false))
