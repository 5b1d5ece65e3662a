use Rattle.std.proofs.Common.{◌≢◌, List, refl, take_all, subst, arith}
use Rattle.std.proofs.lemmas.Option.{slice_get_read}
use Rattle.std.specs.List.{All}
use Rattle.station_listing.specs.declared.items.Items.TheVariants.{Malformed}
use Rattle.station_listing.specs.declared.listing.ListedCategory.{ListedCategory}
use Rattle.sii_bytes.proofs.Validated.{all_more, not_so}
use Rattle.sii_bytes.proofs.validating.first_malformed.Goals as goal

pub loop-category-preserved : goal.loop-category-preserved
loop-category-preserved c =
    all_more (λ (category : ListedCategory). category.items ≢ Malformed) c.args.categories.now c.loop-category.category-index c.category-item.result
    (omega arith) c.loop-category.invariant
    (subst (λ (category : ListedCategory). category.items ≢ Malformed) c.category-item.is (not_so c.are_malformed.ensures c.if-are_malformed.false))

pub returns-then-are_malformed : goal.returns-then-are_malformed
returns-then-are_malformed c = record {
  place = c.loop-category.category-index;
  category = c.category-item.result;
  here = slice_get_read c.args.categories.now _ c.loop-category.category-index c.category-item.result refl c.loop-category-test.true c.category-item.is;
  kind_is = refl;
  malformed = c.are_malformed.ensures.0 c.if-are_malformed.true;
  first = c.loop-category.invariant;
}

pub returns : goal.returns
returns c =
    subst (λ (xs : List ListedCategory). All (λ (category : ListedCategory). category.items ≢ Malformed) xs)
    (take_all c.loop-category.category-index c.args.categories.now (omega arith)) c.loop-category.invariant
