use Rattle.std.proofs.Common.{◌≡◌, ◌<◌, ℕ, Some}
use Rattle.std.specs.Prelude.{slice_get}
use Rattle.station_jobs.specs.declared.log.SlaveLog.{SlaveLog}
use Rattle.station_jobs.specs.Ends.{Stay}
use Rattle.station_jobs.specs.Working.{IsWorked}
use Rattle.desk_book.specs.Logs.{rom_log}
use Rattle.desk_book.proofs.served.Served.workers_match.Given as goal

abbrev pub invariant-loop-i : goal.invariant-loop-i
invariant-loop-i g l = record {
  matches : (k : ℕ) (end : Stay g.row.S.Denot SlaveLog) → k < l.i → slice_get l.workers k ≡ Some end → (end.log.slave ≡ k) × (end.log.jobs ≡ rom_log k l.self.calls);
  worked : (k : ℕ) (end : Stay g.row.S.Denot SlaveLog) → k < l.i → slice_get l.workers k ≡ Some end → IsWorked end.log.slave end.log.jobs (g.S.Site.seen end.start) (g.S.Site.seen end.site);
}
