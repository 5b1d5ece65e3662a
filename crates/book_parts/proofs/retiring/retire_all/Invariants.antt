use Rattle.book_parts.specs.Works.{work_retired}
use Rattle.book_parts.proofs.MapLaws.{Mapped}
use Rattle.book_parts.proofs.retiring.retire_all.Given as goal

abbrev pub invariant-loop-at : goal.invariant-loop-at
invariant-loop-at l = Mapped work_retired l.initial.works l.works l.at
