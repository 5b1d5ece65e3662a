use Rattle.sii_cats.specs.Chain.{member_of}
use Rattle.station_listing.specs.ImageListing.{SaysMember}
use Rattle.sii_words.proofs.ListedMembers.{AllZip-take-step}
use Rattle.station_listing.proofs.listing.list_categories.Goals as goal

pub loop-category-preserved : goal.loop-category-preserved
loop-category-preserved c =
    let said = AllZip-take-step SaysMember (member_of c.args.words.now) c.args.categories.now c.loop-category.category-index _ c.loop-category.listed.items c.in_ok-list_category.field-0 c.loop-category-test.true c.loop-category.invariant c.in_ok-list_category.ensures in
    rw c.in_ok-push.ensures.items said
