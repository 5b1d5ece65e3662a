use Rattle.std.proofs.Common.{map, string_bytes, take}
use Rattle.station_files.specs.Files.{ChangesAmong}
use Rattle.station_line.specs.OpenFiles.{AreOpenedAs}
use Rattle.station_line.proofs.opening.open_images.Given as goal

abbrev pub invariant-loop-slave : goal.invariant-loop-slave
invariant-loop-slave g l = record {
  others : ChangesAmong (g.S.Store.files l.initial.store) (g.S.Store.files l.store) (map (λ name. string_bytes name) l.names);
  opened : AreOpenedAs g.S.Store.opened (map (λ name. string_bytes name) (take l.slave l.names)) (map (λ bytes. bytes.items) (take l.slave l.contents)) l.images.items;
}
