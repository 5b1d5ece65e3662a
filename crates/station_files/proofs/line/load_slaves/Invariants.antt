use Rattle.std.proofs.Common.{◌≡◌, map, take, string_bytes, vec_len}
use Rattle.std.specs.List.{AllZip}
use Rattle.station_files.specs.LineFiles.{SpellsWords}
use Rattle.station_files.proofs.line.load_slaves.Given as goal

abbrev pub invariant-loop-image : goal.invariant-loop-image
invariant-loop-image g l = record {
  count : vec_len l.slaves ≡ l.image-index;
  held : AllZip (SpellsWords (g.S.Store.files l.initial.store)) (map (λ name. string_bytes name) (take l.image-index l.line.images.items)) l.slaves.items;
  same : g.S.Store.files l.store ≡ g.S.Store.files l.initial.store;
}
