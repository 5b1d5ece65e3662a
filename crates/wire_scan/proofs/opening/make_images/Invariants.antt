use Rattle.station_files.specs.FileNames.{spelt}
use Rattle.station_files.specs.Files.{ChangesAmong}
use Rattle.wire_scan.proofs.opening.make_images.Given as goal

abbrev pub invariant-loop-slave : goal.invariant-loop-slave
invariant-loop-slave g l = ChangesAmong (g.S.Store.files l.initial.store) (g.S.Store.files l.store) (spelt l.names)
