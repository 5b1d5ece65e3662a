use Rattle.site_shadow.specs.Unsynced.{DiffersWithin}
use Rattle.site_shadow.proofs.marks.put_back.Given as goal

abbrev pub invariant-loop-place : goal.invariant-loop-place
invariant-loop-place l = DiffersWithin (record { start = l.start; count = l.count }) l.initial.bytes l.bytes
