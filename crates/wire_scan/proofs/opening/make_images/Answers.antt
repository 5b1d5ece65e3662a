use Rattle.std.proofs.Common.{arith, refl}
use Rattle.station_files.proofs.Saved.{others_step}
use Rattle.wire_scan.proofs.opening.make_images.Goals as goal

pub loop-slave-init : goal.loop-slave-init
loop-slave-init g c = λ other absent. refl

pub loop-slave-preserved : goal.loop-slave-preserved
loop-slave-preserved g c =
    others_step (g.S.Store.files c.args.store.now) (g.S.Store.files c.loop-slave.store) (g.S.Store.files c.write_missing.new.store) c.args.names.now c.loop-slave.slave c.index-names-slave.result c.as_str.result.now
    (omega arith) c.index-names-slave.is c.as_str.ensures.value c.loop-slave.invariant c.write_missing.ensures.others

pub returns-in_err-write_missing-clause-others : goal.returns-in_err-write_missing-clause-others
returns-in_err-write_missing-clause-others g c =
    others_step (g.S.Store.files c.args.store.now) (g.S.Store.files c.loop-slave.store) (g.S.Store.files c.write_missing.new.store) c.args.names.now c.loop-slave.slave c.index-names-slave.result c.as_str.result.now
    (omega arith) c.index-names-slave.is c.as_str.ensures.value c.loop-slave.invariant c.write_missing.ensures.others
