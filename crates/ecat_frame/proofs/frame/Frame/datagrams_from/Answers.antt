use Rattle.ecat_frame.proofs.SoFar.{next_drops}
use Rattle.ecat_frame.proofs.frame.Frame.datagrams_from.Goals as goal

pub loop-preserved : goal.loop-preserved
loop-preserved c = next_drops c.args.self.now c.loop.counter c.next.result _ _ c.loop.invariant c.next.ensures.steps
