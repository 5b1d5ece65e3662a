use Rattle.std.proofs.Common.{◌≡◌, ◌+◌, sum_by, take}
use Rattle.sii_image.specs.ProcessImage.{size_of}
use Rattle.sii_image.proofs.limits.left_after.Given as goal

abbrev pub invariant-loop-row : goal.invariant-loop-row
invariant-loop-row l = l.left + sum_by size_of (take l.row-index l.rows) ≡ l.fn.bytes
