use Rattle.std.proofs.Common.{refl}
use Rattle.sii_bytes.specs.Validating.ValidatesListing.{bad_check, runs_out, bad_category}
use Rattle.sii_bytes.proofs.Validated.{malformed_as}
use Rattle.sii_bytes.proofs.validating.validate_listing.Goals as goal

pub returns-in-Wrong : goal.returns-in-Wrong
returns-in-Wrong c = bad_check c.in-Wrong.found c.in-Wrong.expected refl c.from.ensures c.in-Wrong.is

pub returns-in-RunsOut : goal.returns-in-RunsOut
returns-in-RunsOut c = runs_out c.in-RunsOut.at refl refl c.in-Right.is c.in-RunsOut.is

pub returns-in-Some : goal.returns-in-Some
returns-in-Some c =
    bad_category c.in-Complete.categories refl c.in-Right.is c.in-Complete.is
    (malformed_as c.deref.result.now c.in-Complete.categories.items c.in-Some.kind c.from-in-Some.result c.deref.ensures.value c.from-in-Some.ensures c.in-Some.ensures)
