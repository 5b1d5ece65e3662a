use Rattle.std.proofs.Common.{◌≡◌, length}
use Rattle.std.specs.Cmp.Lexicographic.{pointwise}
use Rattle.cyclic.specs.Configuration.{segments_of, is_same}
use Rattle.cyclic.proofs.comparison.has_same_segments.Given as goal

abbrev pub invariant-loop-ours : goal.invariant-loop-ours
invariant-loop-ours l = pointwise is_same (segments_of l.slave l.old_left) (segments_of l.slave l.new_left) ≡ pointwise is_same (segments_of l.slave l.old) (segments_of l.slave l.new)

abbrev pub decreases-loop-ours : goal.decreases-loop-ours
decreases-loop-ours l = length l.old_left
