use Rattle.std.proofs.Common.{All, take}
use Rattle.sii_edit.specs.Fitting.{WordsFit}
use Rattle.world_run.proofs.making.plant_fits.Given as goal

abbrev pub invariant-loop-words : goal.invariant-loop-words
invariant-loop-words l = All WordsFit (take l.words-index l.slaves)
