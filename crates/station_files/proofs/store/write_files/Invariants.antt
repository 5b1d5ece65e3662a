use Rattle.std.proofs.Common.{map, take, string_bytes}
use Rattle.station_files.specs.Files.{ChangesAmong, HoldsAll}
use Rattle.station_files.proofs.store.write_files.Given as goal

abbrev pub invariant-loop-slave : goal.invariant-loop-slave
invariant-loop-slave g l = record {
  written : HoldsAll (g.S.Store.files l.store) (map (λ name. string_bytes name) (take l.slave l.images)) (map (λ file. file.items) (take l.slave l.files));
  others : ChangesAmong (g.S.Store.files l.initial.store) (g.S.Store.files l.store) (map (λ name. string_bytes name) l.images);
}
