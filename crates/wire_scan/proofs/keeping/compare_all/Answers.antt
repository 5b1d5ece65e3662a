use Rattle.std.proofs.Common.{rules}
use Rattle.wire_scan.proofs.KeptWords.{seen_more}
use Rattle.wire_scan.proofs.keeping.compare_all.Goals as goal

pub loop-slave-preserved : goal.loop-slave-preserved
loop-slave-preserved c = record {
  count = search rules;
  seen =
      seen_more c.args.batches.now c.args.slaves.now c.args.images.now c.loop-slave.slave c.loop-slave.seen.items c.push.new.self.items c.seen_of-one.result c.loop-slave.invariant.count
      c.seen_of-one.ensures c.in_ok-push.ensures.items c.loop-slave.invariant.seen;
}
