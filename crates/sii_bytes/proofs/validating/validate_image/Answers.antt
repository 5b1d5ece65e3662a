use Rattle.std.proofs.Common.{ℕ, List, subst}
use Rattle.station_listing.specs.ImageListing.{SaysImage}
use Rattle.sii_bytes.specs.Validating.Validates.{validated}
use Rattle.sii_bytes.proofs.validating.validate_image.Goals as goal

pub returns-in-Ok-list_image : goal.returns-in-Ok-list_image
returns-in-Ok-list_image c =
    validated c.in-Ok-list_image.listing c.in-Ok.ensures.0
    (subst (λ (words : List ℕ). SaysImage words c.in-Ok-list_image.listing) c.in-Ok.ensures.1 c.in-Ok-list_image.ensures) c.validate_listing-code.ensures
