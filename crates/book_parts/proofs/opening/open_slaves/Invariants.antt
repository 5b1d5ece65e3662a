use Rattle.std.proofs.Common.{◌≡◌, [], map, take}
use Rattle.book_model.specs.Open.{opened_slave}
use Rattle.book_parts.specs.Works.{slave_of, WorksStand}
use Rattle.book_parts.proofs.opening.open_slaves.Given as goal

abbrev pub invariant-loop-slave : goal.invariant-loop-slave
invariant-loop-slave l = record {
  slaves : map slave_of l.works.items ≡ map opened_slave (take l.slave l.plant);
  stand : WorksStand l.works.items [] [];
}
