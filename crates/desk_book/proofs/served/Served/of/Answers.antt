use Rattle.std.proofs.Common.{◌≡◌, length, ap, arith}
use Rattle.desk_book.proofs.served.Served.of.Goals as goal

pub with_notes-requires-clause-notes : goal.with_notes-requires-clause-notes
with_notes-requires-clause-notes g c = let none = c.no_notes.ensures.none in rw c.in-Ok.is at none

pub with_notes-requires-clause-count : goal.with_notes-requires-clause-count
with_notes-requires-clause-count g c =
    let count : length c.in-Ok.slaves.items ≡ c.len.result = (let made = c.no_notes.ensures.count in rw c.in-Ok.is at made) in
    omega (arith, count, c.len.ensures.len, ap length c.contents.ensures)
