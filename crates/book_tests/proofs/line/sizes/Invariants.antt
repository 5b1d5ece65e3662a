use Rattle.std.proofs.Common.{◌≡◌, take}
use Rattle.book_model.specs.Entries.{sizes_of}
use Rattle.book_tests.proofs.line.sizes.Given as goal

abbrev pub invariant-loop-words : goal.invariant-loop-words
invariant-loop-words l = l.sizes.items ≡ sizes_of (take l.words-index l.slaves)
