use Rattle.std.proofs.Common.{◌≡◌, take}
use Rattle.wire_scan.proofs.validating.copies_of.Given as goal

abbrev pub invariant-loop-words : goal.invariant-loop-words
invariant-loop-words l = l.copies.items ≡ take l.words-index l.slaves
