use Rattle.std.proofs.Common.{◌≡◌, drop}
use Rattle.sii_image.specs.ProcessData.{managers_in}
use Rattle.sii_image.specs.steps.Contents.{contents_among}
use Rattle.sii_image.proofs.process_data.first_managers.Given as goal

abbrev pub invariant-loop-category : goal.invariant-loop-category
invariant-loop-category l = managers_in (contents_among l.words 41 (drop l.category-index l.categories)) ≡ managers_in (contents_among l.words 41 l.categories)
