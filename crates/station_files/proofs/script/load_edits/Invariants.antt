use Rattle.std.proofs.Common.{◌≡◌, take}
use Rattle.std.specs.List.{AllZip}
use Rattle.station_files.specs.ScriptFiles.{LoadsEdit}
use Rattle.station_files.proofs.script.load_edits.Given as goal

abbrev pub invariant-loop-one : goal.invariant-loop-one
invariant-loop-one g l = record {
  loaded : AllZip (λ one edit. LoadsEdit (g.S.Store.files l.initial.store) one.edit edit) (take l.one-index l.edits) l.loaded.items;
  same : g.S.Store.files l.store ≡ g.S.Store.files l.initial.store;
}
