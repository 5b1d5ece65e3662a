use Rattle.std.proofs.Common.{◌≡◌, ◌++◌, length}
use Rattle.sii_cats.specs.Bytes.{bytes_of, padded}
use Rattle.sii_cats.proofs.bytes.packed.Given as goal

abbrev pub invariant-loop-word : goal.invariant-loop-word
invariant-loop-word l = bytes_of l.words.items ++ padded l.rest ≡ padded l.bytes

abbrev pub decreases-loop-word : goal.decreases-loop-word
decreases-loop-word l = length l.rest
