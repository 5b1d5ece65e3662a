-- What is reported after a run or a recovery.
use Rattle.std.specs.Prelude.{◌≡◌, ℕ, List}
use Rattle.std.specs.List.{AllZip}
use Rattle.station_files.specs.Files.{Known}
use Rattle.station_files.specs.LineFiles.{SpellsSlaves}
use Rattle.station_listing.specs.ImageListing.{SaysCheck}
use Rattle.station_listing.specs.declared.listing.CheckByte.{CheckByte}
use Rattle.line_changes.specs.Changes.{changes_between}
use Rattle.line_changes.specs.declared.report.Before.{Before}
use Rattle.line_changes.specs.declared.report.Report.{Report}

-- for each slave, whether its check byte is right
abbrev pub SayChecks : List (List ℕ) → List CheckByte → Type 0
SayChecks plant checks = AllZip SaysCheck plant checks

-- The image files of the line spell these words now, and the report has the words that differ from those before, with both values, and
-- says of each slave's check byte whether it is right.
pub record Reports (files : Known) (before : Before) (report : Report) : Type 0 where
  pub after : List (List ℕ)
  pub spelt : SpellsSlaves files before.line after
  pub changes : report.changes.items ≡ changes_between before.words after
  pub checks : SayChecks after report.checks.items
