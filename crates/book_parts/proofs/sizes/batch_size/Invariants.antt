use Rattle.std.proofs.Common.{◌≡◌, ◌+◌, take}
use Rattle.book_parts.proofs.SizeLaws.{head_size, entries_bytes}
use Rattle.book_parts.proofs.sizes.batch_size.Given as goal

abbrev pub invariant-loop-entry : goal.invariant-loop-entry
invariant-loop-entry l = l.size ≡ head_size l.fn.form + entries_bytes (take l.entry-index l.entry-items)
