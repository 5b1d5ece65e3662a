use Rattle.std.proofs.Common.{◌≡◌, map, take}
use Rattle.jrn_format.specs.Area.{spelt_batches}
use Rattle.jrn_release.specs.Without.{batch_without, of_half}
use Rattle.jrn_release.proofs.area.spell_half.Given as goal

abbrev pub invariant-loop-batch : goal.invariant-loop-batch
invariant-loop-batch l = l.bytes.items ≡ spelt_batches l.spelling (map (batch_without l.slave) (of_half l.half (take l.batch-index l.batches)))
