use Rattle.std.proofs.Common.{sym}
use Rattle.station_jobs.proofs.RunLaws.{full-last}
use Rattle.station_jobs.proofs.cycle_notes.is_full.Goals as goal

pub returns-in-Some : goal.returns-in-Some
returns-in-Some c = sym (full-last c.args.runs.now c.in-Some.last.now (sym c.in-Some.ensures.value))
