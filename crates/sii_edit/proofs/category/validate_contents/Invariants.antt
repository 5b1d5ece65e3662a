use Rattle.std.proofs.Common.{◌≡◌, map, drop}
use Rattle.sii_cats.specs.Chain.{member_of}
use Rattle.sii_edit.specs.Category.{first_malformed}
use Rattle.sii_edit.proofs.category.validate_contents.Given as goal

-- what is left decides
abbrev pub invariant-loop-category : goal.invariant-loop-category
invariant-loop-category l = first_malformed (map (member_of l.words) (drop l.category-index l.categories)) ≡ first_malformed (map (member_of l.words) l.categories)
