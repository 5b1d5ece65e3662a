use Rattle.station_files.specs.FileNames.{spelt}
use Rattle.station_files.specs.Files.{ChangesAmong}
use Rattle.wire_scan.specs.Backup.{KeepsAll}
use Rattle.wire_scan.proofs.Writing.{AreWritten}
use Rattle.wire_scan.proofs.backup.write_images.Given as goal

abbrev pub invariant-loop-slave : goal.invariant-loop-slave
invariant-loop-slave g l = record {
  kept : KeepsAll (g.S.Store.files l.initial.store) (g.S.Store.files l.store);
  written : AreWritten (g.S.Store.files l.store) l.images l.slaves l.slave;
  others : ChangesAmong (g.S.Store.files l.initial.store) (g.S.Store.files l.store) (spelt l.images);
}
