use Rattle.std.proofs.Common.{◌≡◌, ◌≤◌, length}
use Rattle.sii_image.specs.NewLayouts.{with_each}
use Rattle.sii_image.specs.steps.Weight.{weight_of_all}
use Rattle.sii_image.proofs.layout.put_each.Given as goal

abbrev pub invariant-loop-last : goal.invariant-loop-last
invariant-loop-last l = record {
  few : length l.slaves ≤ 64;
  weight : l.changed ≡ weight_of_all l.slaves;
  left : with_each l.slaves l.left.items ≡ with_each l.fn.slaves l.fn.new.items;
}

abbrev pub decreases-loop-last : goal.decreases-loop-last
decreases-loop-last l = length l.left.items
