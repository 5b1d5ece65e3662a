use Rattle.std.proofs.Common.{arith}
use Rattle.station_files.proofs.Saved.{write_step, others_step}
use Rattle.station_files.proofs.store.write_files.Goals as goal

pub loop-slave-preserved : goal.loop-slave-preserved
loop-slave-preserved g c = record {
  written =
      write_step (g.S.Store.files c.loop-slave.store) (g.S.Store.files c.write.new.self) c.args.images.now c.args.files.now c.loop-slave.slave c.index-images-slave.result c.index-files-slave.result c.as_str.result.now c.deref.result.now
      (omega arith) (omega arith) c.index-images-slave.is c.index-files-slave.is c.as_str.ensures.value c.deref.ensures.value
      c.loop-slave.invariant.written c.write.ensures.others c.in_ok-write.ensures.written;
  others =
      others_step (g.S.Store.files c.args.store.now) (g.S.Store.files c.loop-slave.store) (g.S.Store.files c.write.new.self) c.args.images.now c.loop-slave.slave c.index-images-slave.result c.as_str.result.now
      (omega arith) c.index-images-slave.is c.as_str.ensures.value c.loop-slave.invariant.others c.write.ensures.others;
}
