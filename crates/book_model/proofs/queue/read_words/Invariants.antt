use Rattle.std.proofs.Common.{◌≡◌, map, take}
use Rattle.book_model.specs.Queue.{word_read}
use Rattle.book_model.proofs.queue.read_words.Given as goal

abbrev pub invariant-loop-value : goal.invariant-loop-value
invariant-loop-value l = l.read.items ≡ map word_read (take l.value-index l.words)
