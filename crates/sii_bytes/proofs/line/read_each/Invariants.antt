use Rattle.std.proofs.Common.{◌≡◌, drop, length}
use Rattle.std.specs.List.{sum}
use Rattle.sii_bytes.proofs.LineRead.{Onward}
use Rattle.sii_bytes.proofs.line.read_each.Given as goal

abbrev pub invariant-loop-count : goal.invariant-loop-count
invariant-loop-count l = record {
  entire : sum (drop l.count-index l.lengths) ≡ length l.left;
  onward : Onward l.slaves.items (drop l.count-index l.lengths) l.left l.lengths l.fn.bytes;
}
