use Rattle.std.proofs.Common.{arith}
use Rattle.sii_words.proofs.Copying.{copied_more}
use Rattle.sii_words.proofs.plant.Plant.try_copy.Goals as goal

pub loop-words-preserved : goal.loop-words-preserved
loop-words-preserved c =
    copied_more c.loop-words.slaves.items c.push_copy.new.slaves.items c.deref-words-items.result.now c.loop-words.words-index c.words-item.result c.words-item.result (omega arith) c.words-item.is c.loop-words.invariant c.in_ok-push_copy.ensures
