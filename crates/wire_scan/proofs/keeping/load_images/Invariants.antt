use Rattle.std.proofs.Common.{◌≡◌, length, take}
use Rattle.std.specs.List.{AllZip}
use Rattle.station_files.specs.FileNames.{spelt}
use Rattle.wire_scan.specs.Keeping.{IsImageOf}
use Rattle.wire_scan.proofs.keeping.load_images.Given as goal

abbrev pub invariant-loop-name : goal.invariant-loop-name
invariant-loop-name g l = record {
  count : length l.images.items ≡ l.name-index;
  images : AllZip (IsImageOf (g.S.Store.files l.initial.store)) (spelt (take l.name-index l.names)) l.images.items;
  same : g.S.Store.files l.store ≡ g.S.Store.files l.initial.store;
}
