use Rattle.std.proofs.Common.{◌≡◌, take}
use Rattle.sii_image.specs.NewLayouts.{with_each}
use Rattle.sii_image.specs.steps.Weight.{weight_of_all}
use Rattle.sii_image.proofs.limits.are_within_limits.Given as goal

-- the slaves with the new words of those that were looked at
abbrev pub invariant-loop-entry : goal.invariant-loop-entry
invariant-loop-entry l = l.changed ≡ weight_of_all (with_each l.slaves (take l.entry-index l.new))
