use Rattle.std.proofs.Common.{refl, arith, length}
use Rattle.std.proofs.lemmas.Option.{slice_get_read}
use Rattle.script_session.proofs.HalfPlaces.{half-taken}
use Rattle.script_session.proofs.together.half_at.Goals as goal

pub returns-clause-half : goal.returns-clause-half
returns-clause-half g c =
    let parted = c.parts_at-parts in
    let halves = parted.result.0.halves in
    half-taken c.args.end.site halves.items c.args.slave c.swap_remove-half.result parted.ensures.halves
    (slice_get_read halves.items (length halves.items) c.args.slave c.swap_remove-half.result refl (omega (arith, c.if-slave-len.false, c.len.ensures, halves.ok.0)) c.swap_remove-half.ensures.value)
