use Rattle.std.proofs.Common.{◌≡◌, ◌++◌, drop, map, take}
use Rattle.sii_bytes.specs.Line.{placed_segment}
use Rattle.sii_bytes.proofs.line.write_segments.Given as goal

abbrev pub invariant-loop-place : goal.invariant-loop-place
invariant-loop-place l = l.out ≡ map placed_segment (take l.place l.segments) ++ drop l.place l.fn.out
