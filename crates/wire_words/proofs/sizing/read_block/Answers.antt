use Rattle.std.proofs.Common.{ℕ, List, ◌∙◌, length-set, arith}
use Rattle.wire_words.proofs.Words.{block_more, read_on, next_on}
use Rattle.wire_words.proofs.sizing.read_block.Goals as goal

pub loop-pair-preserved : goal.loop-pair-preserved
loop-pair-preserved g c = record {
  count = omega (arith, length-set {A = List ℕ});
  same = c.in_ok-read.ensures.same ∙ c.loop-pair.invariant.same;
  read = λ kept. block_more g.W.Wire.gives _ _ _ _ _ c.from.ensures (omega arith) (c.loop-pair.invariant.read kept)
      (read_on g.W.Wire.gives _ _ _ _ _ _ c.loop-pair.invariant.same (c.in_ok-read.ensures.read kept) (c.loop-pair.invariant.next kept)).first;
  next = λ kept. next_on g.W.Wire.gives _ _ _
      (read_on g.W.Wire.gives _ _ _ _ _ _ c.loop-pair.invariant.same (c.in_ok-read.ensures.read kept) (c.loop-pair.invariant.next kept)).others;
}
