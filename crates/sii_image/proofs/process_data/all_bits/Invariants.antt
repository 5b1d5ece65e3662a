use Rattle.std.proofs.Common.{drop}
use Rattle.sii_image.proofs.Contents.{Summing}
use Rattle.sii_image.proofs.process_data.all_bits.Given as goal

abbrev pub invariant-loop-category : goal.invariant-loop-category
invariant-loop-category l = Summing l.words l.kind l.categories l.sums (drop l.category-index l.categories)
