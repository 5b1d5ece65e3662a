-- The sites of a line, and the ends of the threads that serve them.
use Rattle.std.specs.Prelude.{◌≡◌, ℕ, List, Option, Some, None, slice_get, IsTrue, IfSome}
use Rattle.site_core.specs.Line.{Line, Owns}
use Rattle.station_jobs.specs.declared.log.SlaveLog.{SlaveLog}
use Rattle.station_jobs.specs.Ends.{Stay}
use Rattle.station_threads.specs.Parts.{IsEndOfSlave}
use Rattle.station_threads.specs.Places.{AllPlaced}

-- Each site owns the EEPROM half of the slave at its place.
abbrev pub OwnSlaves : {S : Type 0} → (S → Line) → List S → Type 0
OwnSlaves {S} line sites = (slave : ℕ) (site : S) → slice_get sites slave ≡ Some site → Owns (line site) slave

-- Each site owns what it is served for: the disk, a slave's EEPROM half, or the process halves, if process data is exchanged.
pub record OwnParts {S : Type 0} (line : S → Line) (disk : S) (slaves : List S) (cycle : Option S) : Type 0 where
  pub of_disk : IsTrue (line disk).has_disk
  pub of_slaves : OwnSlaves line slaves
  pub of_cycle : IfSome cycle (λ site. IsTrue (line site).has_process)

-- ---- ends

-- One end for each slave's site, in order: its work was this slave's, and began with that site.
abbrev pub AreEndsOfSites : {S : Type 0} → List S → List (Stay S SlaveLog) → Type 0
AreEndsOfSites {S} sites ends = AllPlaced (λ slave (site : S) (end : Stay S SlaveLog). IsEndOfSlave slave site end) 0 sites ends

-- The process data has an end exactly where there is a site for it, and its work began with that site.
abbrev pub IsEndOfTurns : {S L : Type 0} → Option S → Option (Stay S L) → Type 0
IsEndOfTurns None None = Unit {0}
IsEndOfTurns (Some site) (Some end) = end.start ≡ site
IsEndOfTurns site end = ⊥
