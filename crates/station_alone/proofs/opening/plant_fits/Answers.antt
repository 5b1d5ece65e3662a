use Rattle.std.proofs.Common.{[], All, length, arith, subst, ◌<◌, ◌≤◌}
use Rattle.std.proofs.lemmas.List.{take_all}
use Rattle.std.proofs.lemmas.List.Elements.{All-more}
use Rattle.sii_edit.specs.Fitting.{WordsFit}
use Rattle.station_alone.proofs.opening.plant_fits.Goals as goal

pub loop-slave-preserved : goal.loop-slave-preserved
loop-slave-preserved c =
    let within : c.loop-slave.slave < length c.args.plant.now = omega (arith, c.loop-slave-test.true, c.len-slave-end.ensures.len) in
    All-more WordsFit c.args.plant.now c.loop-slave.slave [] within c.loop-slave.invariant (subst WordsFit c.slave.ensures c.slave_fits.ensures)

pub returns : goal.returns
returns c =
    let all : length c.args.plant.now ≤ c.loop-slave.slave = omega (arith, c.loop-slave-test.false, c.len-slave-end.ensures.len) in
    subst (All WordsFit) (take_all c.loop-slave.slave c.args.plant.now all) c.loop-slave.invariant
