-- What `journal` tells: what a journal holds, and what a recovery would write.
use Rattle.std.specs.Prelude.{◌≡◌, ℕ, List}
use Rattle.book_model.specs.Opening.{words_in}
use Rattle.site_shadow.specs.Site.{SiteValue}
use Rattle.station_alone.specs.Station.{Station}
use Rattle.station_alone.specs.Recovery.{BeginsRecovered, CountsRecovered, HasRecovered}
use Rattle.station_text.specs.declared.line_file.LineFile.{LineFile}
use Rattle.station_files.specs.Files.{Known}
use Rattle.station_line.specs.Opened.{Loads}
use Rattle.line_changes.specs.Changes.{changes_between}
use Rattle.station_plan.specs.declared.journal.Restored.{Restored}

-- A recovery of this site would find so much, and change these words.
pub record Restores (site : SiteValue) (restored : Restored) : Type 0 where
  pub s : Station
  pub recovered : HasRecovered s
  pub begins : BeginsRecovered site.seen s
  pub counts : CountsRecovered site.line.sizes site.seen restored.recovered s
  pub changes : restored.changes.items ≡ changes_between (words_in site.seen.state.halves) (words_in s.seen.state.halves)

-- A recovery of this site would do this. Its disk is the journal of `restores.counts`.
pub record ListsSite (site : SiteValue) : Type 0 where
  pub restored : Restored
  pub restores : Restores site restored

-- The files spell a line with such a site.
pub record ListsJournal (files : Known) (name : List ℕ) : Type 0 where
  pub line : LineFile
  pub site : SiteValue
  pub loaded : Loads files name line site
  pub lists : ListsSite site
