-- A line as it is read from its files, and how a station starts on it.
use Rattle.std.specs.Prelude.{◌≡◌, ◌==◌, ◌&&◌, Bool, true, false, not, nat_le, List, [], length, slice_index, string_bytes, ℕ, IsTrue}
use Rattle.site_core.specs.Line.{Line}
use Rattle.site_core.specs.State.{Seen}
use Rattle.site_shadow.specs.Site.{SiteValue}
use Rattle.esc_rom.specs.Owned.{OwnsAll}
use Rattle.station_alone.specs.Station.{Station}
use Rattle.station_alone.specs.Opening.{Opens, BeginsSession}
use Rattle.station_alone.specs.Recovery.{HasRecovered, BeginsRecovered}
use Rattle.station_text.specs.declared.line_file.LineFile.{LineFile}
use Rattle.station_files.specs.Files.{Known, HasBytes}
use Rattle.station_files.specs.LineFiles.{SpellsLine, SpellsSlaves}
use Rattle.station_line.specs.Site.{IsSiteOf}
use Rattle.site_core.specs.Times.{Follows}
use Rattle.station_alone.specs.Keeping.{KeepsThroughout}

-- the files spell this line, the words of its slaves and the bytes of its journal
pub record IsLine (files : Known) (name : List ℕ) (line : LineFile) (plant : List (List ℕ)) (bytes : List ℕ) : Type 0 where
  pub described : SpellsLine files name line
  pub slaves : SpellsSlaves files line plant
  pub journal : HasBytes files (string_bytes line.journal) bytes

-- this site is the line in memory that is made of what the files spell
pub record Loads (files : Known) (name : List ℕ) (line : LineFile) (site : SiteValue) : Type 0 where
  pub plant : List (List ℕ)
  pub bytes : List ℕ
  pub given : IsLine files name line plant bytes
  pub made : IsSiteOf plant bytes site
  pub count : length site.line.sizes ≡ length line.images.items

-- A line that was read and just switched on: no call was seen yet, and it has a slave for each image of the line file.
pub record IsFresh (line : LineFile) (site : SiteValue) : Type 0 where
  pub has_disk : IsTrue site.line.has_disk
  pub owned : OwnsAll site.line
  pub new : site.seen.past ≡ []
  pub count : length site.line.sizes ≡ length line.images.items

-- ---- how a station starts

-- the journal's file has a version byte other than 2
abbrev pub is_old : List ℕ → Bool
is_old bytes = nat_le 2 (length bytes) && not (slice_index bytes 1 == 2)

-- The station was opened on this site, and its session begins there.
pub record IsOpened (line : Line) (before : Seen) (s : Station) : Type 0 where
  pub opens : Opens line before s
  pub begins : BeginsSession before s

-- A recovery from the first state has ended, and left this line in the second state.
pub record IsMigrated (before : Seen) (line : Line) (left : Seen) : Type 0 where
  pub r : Station
  pub recovered : HasRecovered r
  pub begins : BeginsRecovered before r
  pub its_line : line ≡ r.line
  pub its_state : left ≡ r.seen

-- The station was opened on this site after a recovery.
pub record IsOpenedRecovered (before : Seen) (s : Station) : Type 0 where
  pub r : Station
  pub recovered : HasRecovered r
  pub begins : BeginsRecovered before r
  pub opened : IsOpened r.line r.seen s

-- A line whose journal isn't of version 2 is recovered before the station is opened.
abbrev pub StartsFrom : (was_old : Bool) → SiteValue → Station → Type 0
StartsFrom true site s = IsOpenedRecovered site.seen s
StartsFrom false site s = IsOpened site.line site.seen s

-- Calls alone led the site from one state to the other, and what was kept for a machine stays so at each moment of them.
pub record GoesKept (before now : Seen) : Type 0 where
  pub goes_on : Follows before now
  pub keeps : KeepsThroughout before now
