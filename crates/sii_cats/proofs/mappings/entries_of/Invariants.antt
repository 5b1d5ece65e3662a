use Rattle.std.proofs.Common.{◌≡◌, ◌++◌, length}
use Rattle.sii_cats.specs.Pdos.{entries_in}
use Rattle.sii_cats.proofs.mappings.entries_of.Given as goal

abbrev pub invariant-loop-entry : goal.invariant-loop-entry
invariant-loop-entry l = l.entries.items ++ entries_in l.rest ≡ entries_in l.words

abbrev pub decreases-loop-entry : goal.decreases-loop-entry
decreases-loop-entry l = length l.rest
