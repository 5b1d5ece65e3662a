use Rattle.std.proofs.Common.{◌<◌, length, rules}
use Rattle.line_changes.proofs.NextCheck.{next_check}
use Rattle.line_changes.proofs.checks.checks_of.Goals as goal

pub loop-slave-preserved : goal.loop-slave-preserved
loop-slave-preserved c =
    let inside : c.loop-slave.slave < length c.args.plant.now = search rules in
    next_check c.args.plant.now c.loop-slave.slave c.slave.result.now c.loop-slave.checks.items _ c.check_of.result
    inside c.slave.ensures c.in_ok-push.ensures.items c.loop-slave.invariant c.check_of.ensures
