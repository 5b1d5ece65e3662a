use Rattle.std.proofs.Common.{All, take}
use Rattle.sii_edit.specs.Fitting.{WordsFit}
use Rattle.station_alone.proofs.opening.plant_fits.Given as goal

abbrev pub invariant-loop-slave : goal.invariant-loop-slave
invariant-loop-slave l = All WordsFit (take l.slave l.plant)
