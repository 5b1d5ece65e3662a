use Rattle.wire_mirror.proofs.Syncing.{below_more}
use Rattle.wire_mirror.proofs.images.Images.sync.Goals as goal

pub loop-slave-preserved : goal.loop-slave-preserved
loop-slave-preserved g c =
    below_more c.loop-slave.slave c.take_marks-unsynced.result c.args.self.now.files.items c.take_marks-unsynced.new.calls c.loop-slave.calls c.sync_marked.new.calls
    c.loop-slave.invariant c.sync_marked.ensures
