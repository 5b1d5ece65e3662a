use Rattle.desk_book.specs.Serving.{AreRomLogs}
use Rattle.std.proofs.Common.{◌≡◌, [], length}
use Rattle.desk_book.proofs.served.no_notes.Given as goal

abbrev pub invariant-loop-made : goal.invariant-loop-made
invariant-loop-made l = AreRomLogs [] l.notes.items × (length l.notes.items ≡ l._made)
