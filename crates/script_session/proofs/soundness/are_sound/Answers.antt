use Rattle.std.proofs.Common.{◌∙◌, ap, length, refl}
use Rattle.std.specs.Prelude.{IsTrue}
use Rattle.std.proofs.lemmas.Option.{slice_get_read}
use Rattle.script_session.proofs.PartLaws.{all_next}
use Rattle.script_session.proofs.soundness.are_sound.Goals as goal

pub loop-place-preserved : goal.loop-place-preserved
loop-place-preserved g c =
    let parts = c.args.parts.now in
    let place = c.loop-place.place in
    let part = c.index-parts-place.result in
    all_next (λ part. IsTrue part.is_sound) parts place part c.loop-place.invariant
    (slice_get_read parts (length parts) place part refl c.loop-place-test.true c.index-parts-place.is)
    (ap (λ part. part.is_sound) c.index-parts-place.is ∙ c.if-not-parts-place.false)
