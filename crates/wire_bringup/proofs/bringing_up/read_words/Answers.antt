use Rattle.std.proofs.Common.{◌∙◌, refl}
use Rattle.wire_words.proofs.Words.{read_on, next_on}
use Rattle.wire_bringup.proofs.Lines.{no_pairs, pair_pushed}
use Rattle.wire_bringup.proofs.bringing_up.read_words.Goals as goal

pub loop-place-init : goal.loop-place-init
loop-place-init g c = record { same = refl; read = no_pairs g.W.Wire.gives _ _ c.new-bytes.ensures.items; next = tt }

pub loop-place-preserved : goal.loop-place-preserved
loop-place-preserved g c = record {
  same = c.in_ok-read.ensures.same ∙ c.loop-place.invariant.same;
  read = pair_pushed g.W.Wire.gives _ _ _ _ _ c.in_ok-extend_from_slice.ensures.items c.loop-place.invariant.read
      (read_on g.W.Wire.gives _ _ _ _ _ _ c.loop-place.invariant.same (c.in_ok-read.ensures.read c.requires.kept) c.loop-place.invariant.next).first;
  next = next_on g.W.Wire.gives _ _ _
      (read_on g.W.Wire.gives _ _ _ _ _ _ c.loop-place.invariant.same (c.in_ok-read.ensures.read c.requires.kept) c.loop-place.invariant.next).others;
}
