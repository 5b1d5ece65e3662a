use Rattle.std.proofs.Common.{◌-◌, length}
use Rattle.sii_cats.proofs.Walk.{Walking}
use Rattle.sii_cats.proofs.categories.walk.Given as goal

abbrev pub invariant-loop-categories : goal.invariant-loop-categories
invariant-loop-categories l = Walking l.words l.categories.items l.at

abbrev pub decreases-loop-categories : goal.decreases-loop-categories
decreases-loop-categories l = length l.words - l.at
