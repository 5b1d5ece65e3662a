use Rattle.std.proofs.Common.{true, false}
use Rattle.wire_mirror.specs.Mirroring.SyncsFile.{syncs}
use Rattle.wire_mirror.proofs.Syncing.{synced_badly, synced_well}
use Rattle.wire_mirror.proofs.images.Images.sync_marked.Goals as goal

pub returns-then-not-sync_file : goal.returns-then-not-sync_file
returns-then-not-sync_file g c =
    syncs false c.if-unsynced-slave-eq1.true
    (synced_badly c.args.slave c.sync_file.result c.args.calls.now c.sync_file.new.calls c.fail.new.calls c.if-not-sync_file.true c.sync_file.ensures c.fail.ensures)

pub returns-else-not-sync_file : goal.returns-else-not-sync_file
returns-else-not-sync_file g c =
    syncs true c.if-unsynced-slave-eq1.true (synced_well c.args.slave c.sync_file.result c.args.calls.now c.sync_file.new.calls c.if-not-sync_file.false c.sync_file.ensures)
