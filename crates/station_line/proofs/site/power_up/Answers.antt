use Rattle.std.proofs.Common.{◌+◌, Some, ap, refl, ◌∙◌}
use Rattle.esc_model.specs.SlaveHalf.{powered_up}
use Rattle.station_line.proofs.SwitchedOn.{powers_up_one_more}
use Rattle.station_line.proofs.site.power_up.Goals as goal

pub loop-slave-preserved : goal.loop-slave-preserved
loop-slave-preserved c =
    let station = 4097 + c.loop-slave.slave in
    rw c.in_ok-push.ensures.items
    (powers_up_one_more c.loop-slave.halves.items (Some c.power_up.result) c.args.slaves.now c.loop-slave.slave c.index-slaves-slave.result station
    c.loop-slave-test.true c.index-slaves-slave.is refl c.loop-slave.invariant (c.power_up.ensures ∙ ap (λ words. powered_up words station) c.in_ok-try_copy.ensures))
