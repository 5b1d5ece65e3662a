use Rattle.std.proofs.Common.{◌≢◌, take}
use Rattle.std.specs.List.{All}
use Rattle.station_listing.specs.declared.items.Items.TheVariants.{Malformed}
use Rattle.sii_bytes.proofs.validating.first_malformed.Given as goal

abbrev pub invariant-loop-category : goal.invariant-loop-category
invariant-loop-category l = All (λ category. category.items ≢ Malformed) (take l.category-index l.categories)
