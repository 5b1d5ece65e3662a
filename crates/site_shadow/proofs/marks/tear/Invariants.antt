use Rattle.site_shadow.specs.Unsynced.{DiffersAtMarks}
use Rattle.site_shadow.proofs.marks.tear.Given as goal

abbrev pub invariant-loop-undone : goal.invariant-loop-undone
invariant-loop-undone l = DiffersAtMarks l.before l.initial.bytes.items l.bytes.items
