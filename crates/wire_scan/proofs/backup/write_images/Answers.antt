use Rattle.std.proofs.Common.{arith, refl, ◌∙◌}
use Rattle.station_files.proofs.Saved.{others_step}
use Rattle.wire_scan.proofs.Writing.{all_written, none_written, one_more_written}
use Rattle.wire_scan.proofs.backup.write_images.Goals as goal

pub loop-slave-init : goal.loop-slave-init
loop-slave-init g c = record {
  kept = λ name bytes is. is;
  written = none_written (g.S.Store.files c.args.store.now) c.args.images.now c.args.slaves.now c.requires.may_stay;
  others = λ other absent. refl;
}

pub loop-slave-preserved : goal.loop-slave-preserved
loop-slave-preserved g c = record {
  kept = λ name bytes is. c.write_missing.ensures.kept name bytes (c.loop-slave.invariant.kept name bytes is);
  written =
      one_more_written (g.S.Store.files c.loop-slave.store) (g.S.Store.files c.write_missing.new.store) c.args.images.now c.args.slaves.now c.loop-slave.slave c.index-images-slave.result c.as_str.result.now c.deref.result.now c.index-slaves-slave.result
      (omega arith) c.index-images-slave.is c.as_str.ensures.value (c.deref.ensures.value ∙ c.in_ok-bytes.ensures) c.index-slaves-slave.is c.requires.distinct c.write_missing.ensures.others c.in_ok-write_missing.ensures.written c.loop-slave.invariant.written;
  others =
      others_step (g.S.Store.files c.args.store.now) (g.S.Store.files c.loop-slave.store) (g.S.Store.files c.write_missing.new.store) c.args.images.now c.loop-slave.slave c.index-images-slave.result c.as_str.result.now
      (omega arith) c.index-images-slave.is c.as_str.ensures.value c.loop-slave.invariant.others c.write_missing.ensures.others;
}

pub returns-clause-written : goal.returns-clause-written
returns-clause-written g c = all_written (g.S.Store.files c.loop-slave.store) c.args.images.now c.args.slaves.now c.loop-slave.slave (omega arith) c.loop-slave.invariant.written
