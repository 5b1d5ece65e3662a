use Rattle.std.proofs.Common.{◌∙◌}
use Rattle.wire_bringup.proofs.Lines.{all_pushed, count_pushed, found_at}
use Rattle.wire_bringup.proofs.bringing_up.find_slaves.Goals as goal

pub loop-slave-preserved : goal.loop-slave-preserved
loop-slave-preserved g c = record {
  count = count_pushed _ _ _ _ c.in_ok-push.ensures.items c.loop-slave.invariant.count;
  same = c.in_ok-find_slave.ensures.same ∙ c.loop-slave.invariant.same;
  words = all_pushed g.W.Wire.gives _ _ _ _ _ c.in_ok-push.ensures.items c.loop-slave.invariant.count c.loop-slave.invariant.words
      (found_at g.W.Wire.gives _ _ _ c.in_ok-find_slave.field-0 c.loop-slave.invariant.same c.in_ok-find_slave.ensures.words);
}
