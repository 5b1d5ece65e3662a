use Rattle.std.proofs.Common.{arith, ◌∙◌}
use Rattle.wire_scan.proofs.Kept.{one_more_stays}
use Rattle.wire_scan.proofs.plan.validate_images.Goals as goal

pub loop-slave-preserved : goal.loop-slave-preserved
loop-slave-preserved g c = record {
  validated =
      one_more_stays (g.S.Store.files c.args.store.now) (g.S.Store.files c.loop-slave.store) c.args.names.now c.args.slaves.now c.loop-slave.slave c.index-names-slave.result c.as_str.result.now c.index-slaves-slave.result
      (omega arith) (omega arith) c.loop-slave.invariant.same c.index-names-slave.is c.as_str.ensures.value c.index-slaves-slave.is c.loop-slave.invariant.validated c.in_ok-validate_image.ensures.validated;
  same = c.validate_image.ensures.same ∙ c.loop-slave.invariant.same;
}
