use Rattle.std.proofs.Common.{◌≡◌, take}
use Rattle.std.specs.List.{AllZip}
use Rattle.station_files.specs.Locations.{LeadsTo}
use Rattle.station_files.specs.FileNames.{spelt}
use Rattle.station_files.proofs.same_files.locate_all.Given as goal

abbrev pub invariant-loop-one : goal.invariant-loop-one
invariant-loop-one g l = record {
  led : AllZip (LeadsTo g.S.Store.leads) (spelt (take l.one-index l.names)) l.found.items;
  same : g.S.Store.files l.store ≡ g.S.Store.files l.initial.store;
}
