use Rattle.std.proofs.Common.{map, take}
use Rattle.std.specs.List.{AllZip}
use Rattle.sii_cats.specs.Chain.{member_of}
use Rattle.station_listing.specs.ImageListing.{SaysMember}
use Rattle.station_listing.proofs.listing.list_categories.Given as goal

abbrev pub invariant-loop-category : goal.invariant-loop-category
invariant-loop-category l =
    AllZip SaysMember (map (member_of l.words) (take l.category-index l.categories)) l.listed.items
