use Rattle.std.proofs.Common.{◌≡◌, map, take}
use Rattle.sii_words.specs.Words.{bytes_of}
use Rattle.wire_scan.proofs.opening.bytes_of_all.Given as goal

abbrev pub invariant-loop-words : goal.invariant-loop-words
invariant-loop-words l = map (λ file. file.items) l.files.items ≡ map bytes_of (take l.words-index l.slaves)
