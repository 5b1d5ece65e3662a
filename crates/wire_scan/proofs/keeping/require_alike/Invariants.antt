use Rattle.book_model.specs.Entries.{live_runs}
use Rattle.wire_scan.specs.Keeping.{ArePassed}
use Rattle.wire_scan.proofs.keeping.require_alike.Given as goal

abbrev pub invariant-loop-slave : goal.invariant-loop-slave
invariant-loop-slave l = ArePassed l.mends (live_runs l.batches) l.slaves l.images l.slave
