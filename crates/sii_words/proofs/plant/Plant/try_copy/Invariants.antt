use Rattle.std.proofs.Common.{◌≡◌, take}
use Rattle.sii_words.proofs.plant.Plant.try_copy.Given as goal

abbrev pub invariant-loop-words : goal.invariant-loop-words
invariant-loop-words l = l.slaves.items ≡ take l.words-index l.words-items
