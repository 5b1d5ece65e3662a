use Rattle.std.proofs.Common.{◌≡◌, ◌*◌, take}
use Rattle.sii_words.specs.Words.{bytes_of}
use Rattle.sii_words.proofs.layout.read_bytes.Given as goal

abbrev pub invariant-loop-i : goal.invariant-loop-i
invariant-loop-i l = bytes_of (take l.i l.words) ≡ take (2 * l.i) l.bytes
