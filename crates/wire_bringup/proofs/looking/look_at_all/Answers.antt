use Rattle.std.proofs.Common.{◌∙◌, length-set, arith}
use Rattle.wire_bringup.specs.declared.found.SlaveState.{SlaveState}
use Rattle.wire_bringup.proofs.States.{looked_more, state_at}
use Rattle.wire_bringup.proofs.looking.look_at_all.Goals as goal

pub loop-slave-preserved : goal.loop-slave-preserved
loop-slave-preserved g c = record {
  count = omega (arith, length-set {A = SlaveState});
  same = c.in-Ok.ensures.same ∙ c.loop-slave.invariant.same;
  lent = c.in-Ok.ensures.lent ∙ c.loop-slave.invariant.lent;
  looked = looked_more g.W.Wire.gives _ _ _ _ _ _ c.from.ensures (omega arith) c.loop-slave.invariant.looked
      (state_at g.W.Wire.gives _ _ _ _ _ _ c.loop-slave.invariant.same c.loop-slave.invariant.lent c.in-Ok.ensures.looked);
}
