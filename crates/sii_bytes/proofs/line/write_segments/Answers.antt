use Rattle.std.proofs.Common.{false, get_or, refl, ap, set, ◌∙◌, arith}
use Rattle.sii_bytes.specs.declared.line.PlacedSegment.{PlacedSegment}
use Rattle.sii_bytes.specs.Line.{placed_segment}
use Rattle.sii_bytes.proofs.LineWritten.{written_more}
use Rattle.sii_bytes.proofs.line.write_segments.Goals as goal

pub loop-place-preserved : goal.loop-place-preserved
loop-place-preserved c =
    let x = get_or c.args.segments.now c.loop-place.place (record { slave = 0; manager = 0; output = false; offset = 0; size = 0; bits = 0; start = 0; control = 0 }) in
    ap (λ (v : PlacedSegment). set c.loop-place.out c.loop-place.place v) c.placed.ensures
    ∙ written_more placed_segment c.args.segments.now c.args.out.now c.loop-place.out c.loop-place.place x _ (placed_segment x) (omega arith) c.requires c.loop-place.invariant refl
