use Rattle.std.proofs.Common.{◌≡◌, take}
use Rattle.sii_image.proofs.layout.Layout.of.Given as goal

abbrev pub invariant-loop-slave : goal.invariant-loop-slave
invariant-loop-slave l = l.slaves.items ≡ take l.slave l.plant
