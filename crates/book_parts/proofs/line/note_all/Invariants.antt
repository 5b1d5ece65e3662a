use Rattle.std.proofs.Common.{◌≡◌, ◌++◌, take}
use Rattle.book_parts.proofs.line.note_all.Given as goal

abbrev pub invariant-loop-entry : goal.invariant-loop-entry
invariant-loop-entry l = l.history ≡ l.initial.history ++ take l.entry-index l.entries
