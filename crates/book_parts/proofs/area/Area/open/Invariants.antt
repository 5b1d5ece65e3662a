use Rattle.std.proofs.Common.{◌≡◌, take}
use Rattle.book_parts.proofs.RoomOpenLaws.{separate}
use Rattle.book_parts.proofs.area.Area.open.Given as goal

abbrev pub invariant-loop-batch : goal.invariant-loop-batch
invariant-loop-batch l = l.area ≡ separate l.fn.form l.fn.capacity l.at l.generation (take l.batch-index l.batches)
