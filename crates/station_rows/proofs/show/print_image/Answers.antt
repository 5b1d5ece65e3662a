use Rattle.station_rows.proofs.show.print_image.Goals as goal

pub returns-clause-status : goal.returns-clause-status
returns-clause-status g c = record { listing = c.in_ok-listing.listing; validated = c.status_of.ensures; says = c.in_ok-listing.ensures }
