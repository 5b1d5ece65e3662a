use Rattle.std.proofs.Common.{◌≡◌}
use Rattle.site_file.specs.Asking.{AsksToRead}
use Rattle.site_file.proofs.files.has_bytes.Given as goal

abbrev pub invariant-loop-piece : goal.invariant-loop-piece
invariant-loop-piece g l = record {
  can_next : (goal.iterator-loop-piece g).can_next l.piece-iterator;
  is_finite : (goal.iterator-loop-piece g).is_finite l.piece-iterator;
  part : l.asking.part ≡ l.fn.asking.part;
  reads : AsksToRead l.file.name l.fn.asking.calls l.asking.calls;
}
