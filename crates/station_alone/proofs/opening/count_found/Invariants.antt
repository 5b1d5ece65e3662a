use Rattle.std.proofs.Common.{◌≡◌, length, take}
use Rattle.book_model.specs.Entries.{entries_of}
use Rattle.station_alone.proofs.opening.count_found.Given as goal

abbrev pub invariant-loop-batch : goal.invariant-loop-batch
invariant-loop-batch l = l.commands ≡ length (entries_of (take l.batch-index l.batches))
