use Rattle.std.proofs.Common.{◌≡◌, ◌≤◌, length}
use Rattle.cyclic.specs.Configuration.{segments_of}
use Rattle.cyclic.proofs.comparison.first_of.Given as goal

abbrev pub invariant-loop-left : goal.invariant-loop-left
invariant-loop-left l = record {
  same : segments_of l.slave l.left ≡ segments_of l.slave l.segments;
  within : length l.left ≤ length l.segments;
}

abbrev pub decreases-loop-left : goal.decreases-loop-left
decreases-loop-left l = length l.left
