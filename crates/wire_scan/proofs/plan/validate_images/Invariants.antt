use Rattle.std.proofs.Common.{◌≡◌, take}
use Rattle.std.specs.List.{AllZip}
use Rattle.station_files.specs.FileNames.{spelt}
use Rattle.wire_scan.specs.Backup.{MayStay}
use Rattle.wire_scan.proofs.plan.validate_images.Given as goal

abbrev pub invariant-loop-slave : goal.invariant-loop-slave
invariant-loop-slave g l = record {
  validated : AllZip (MayStay (g.S.Store.files l.initial.store)) (spelt (take l.slave l.names)) (take l.slave l.slaves);
  same : g.S.Store.files l.store ≡ g.S.Store.files l.initial.store;
}
