use Rattle.book_parts.specs.Works.{all_older}
use Rattle.book_parts.proofs.MapLaws.{Mapped}
use Rattle.book_parts.proofs.retiring.make_older.Given as goal

abbrev pub invariant-loop-at : goal.invariant-loop-at
invariant-loop-at l = Mapped all_older l.initial.works l.works l.at
