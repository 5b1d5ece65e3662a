use Rattle.std.proofs.Common.{take}
use Rattle.std.specs.List.{AllZip}
use Rattle.station_listing.specs.ImageListing.{SaysCheck}
use Rattle.line_changes.proofs.checks.checks_of.Given as goal

abbrev pub invariant-loop-slave : goal.invariant-loop-slave
invariant-loop-slave l = AllZip SaysCheck (take l.slave l.plant) l.checks.items
