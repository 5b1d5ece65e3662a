use Rattle.std.proofs.Common.{◌≡◌, take}
use Rattle.site_shadow.specs.Line.{halves_of}
use Rattle.station_line.specs.Site.{powered_up_from}
use Rattle.station_line.proofs.site.power_up.Given as goal

abbrev pub invariant-loop-slave : goal.invariant-loop-slave
invariant-loop-slave l = halves_of l.halves.items ≡ powered_up_from 4097 (take l.slave l.slaves)
