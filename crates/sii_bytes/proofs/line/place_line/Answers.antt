use Rattle.std.proofs.Common.{◌≡◌, ◌++◌, ◌<◌, List, drop, length, map, refl, subst}
use Rattle.sii_image.specs.declared.process_image.Segment.{Segment}
use Rattle.sii_bytes.specs.Line.{placed_segment}
use Rattle.sii_bytes.proofs.LinePlaced.{line-done, line-spaceless}
use Rattle.sii_bytes.proofs.line.place_line.Goals as goal

pub returns-then-segments : goal.returns-then-segments
returns-then-segments c =
    line-spaceless c.args.lengths.now c.args.bytes.now c.args.segments.now c.args.segments.now c.args.sizes.now _ c.in-Ok.found c.in-Ok.ensures c.in-Ok-image_of.image
    c.in-Ok-image_of.ensures (subst (λ (l : List Segment). length c.args.segments.now < length l) c.segments.ensures c.if-segments.true) (refl, refl)

pub returns : goal.returns
returns c =
    line-done c.args.lengths.now c.args.bytes.now c.args.segments.now c.write_segments.new.out c.sizes_of.result _ c.in-Ok.found c.in-Ok.ensures c.in-Ok-image_of.image
    c.in-Ok-image_of.ensures (record {
      segments =
          subst (λ (l : List Segment). c.write_segments.new.out ≡ map placed_segment l ++ drop (length l) c.args.segments.now) c.segments-2.ensures c.write_segments.ensures;
      sizes_are = c.sizes_of.ensures;
    })
