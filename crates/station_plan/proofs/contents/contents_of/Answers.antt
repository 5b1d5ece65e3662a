use Rattle.std.proofs.Common.{arith}
use Rattle.station_plan.proofs.Words.{words_more}
use Rattle.station_plan.proofs.contents.contents_of.Goals as goal

pub loop-slave-preserved : goal.loop-slave-preserved
loop-slave-preserved g c = record {
  words =
      rw c.in_ok-push.ensures.items
      (words_more c.in_ok-parts.parts.halves.items c.args.site.now.seen.state.halves c.loop-slave.slave c.slaves-count.result c.index.result.now c.in_ok-copy_words.field-0 c.loop-slave.slaves.items c.in_ok-parts.ensures.halves
      (rw c.from.ensures at c.index.ensures) c.loop-slave-test.true c.slaves-count.ensures.halves c.loop-slave.invariant.words c.in_ok-copy_words.ensures);
  count = omega (arith, c.in_ok-push.ensures.len, c.loop-slave.invariant.count);
}
