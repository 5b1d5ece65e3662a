use Rattle.book_parts.proofs.MapLaws.{Mapped}
use Rattle.book_core.specs.Stands.{as_found}
use Rattle.book_core.proofs.taking.renumber.Given as goal

abbrev pub invariant-loop-at : goal.invariant-loop-at
invariant-loop-at l = Mapped as_found l.initial.entries l.entries l.at
