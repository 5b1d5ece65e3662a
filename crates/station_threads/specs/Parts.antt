-- The ends of the threads that serve the parts of a line.
use Rattle.std.specs.Prelude.{◌≡◌, ℕ}
use Rattle.station_jobs.specs.declared.log.SlaveLog.{SlaveLog}
use Rattle.station_jobs.specs.Ends.{Stay}

-- The end's work was this slave's, and began with this site.
pub record IsEndOfSlave {S : Type 0} (slave : ℕ) (site : S) (end : Stay S SlaveLog) : Type 0 where
  pub slave_is : end.log.slave ≡ slave
  pub start : end.start ≡ site
