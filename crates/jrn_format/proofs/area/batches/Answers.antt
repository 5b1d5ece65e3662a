use Rattle.std.proofs.lemmas.Result.{err_from_is_err_and}
use Rattle.jrn_format.proofs.AreaReading.{front_shorter, goes_on, is_done, breaks_off}
use Rattle.jrn_format.proofs.area.batches.Goals as goal

pub returns-in_err-batch : goal.returns-in_err-batch
returns-in_err-batch c =
    let p = err_from_is_err_and c.from_residual.result c.from_residual.ensures.1 in
    rw (p.1, p.2) (breaks_off c.args.spelling c.args.half c.args.sizes.now c.args.end c.args.area.now c.loop-batches.batches.items c.loop-batches.rest.now c.in_err-batch.field-0.0 c.in_err-batch.ensures c.loop-batches.invariant)

pub loop-batches-smaller : goal.loop-batches-smaller
loop-batches-smaller c = front_shorter c.args.spelling c.args.half c.args.sizes.now c.args.end c.loop-batches.rest.now c.in-Some.batch c.in-Some.after.now (rw c.in-Some.is at c.in_ok-batch.ensures)

pub loop-batches-preserved : goal.loop-batches-preserved
loop-batches-preserved c =
    rw c.in_ok-push.ensures.items (goes_on c.args.spelling c.args.half c.args.sizes.now c.args.end c.args.area.now c.loop-batches.batches.items c.loop-batches.rest.now c.in-Some.batch c.in-Some.after.now
    (rw c.in-Some.is at c.in_ok-batch.ensures) c.loop-batches.invariant)

pub returns : goal.returns
returns c = is_done c.args.spelling c.args.half c.args.sizes.now c.args.end c.args.area.now c.loop-batches.batches.items c.loop-batches.rest.now (rw c.in_default.is at c.in_ok-batch.ensures) c.loop-batches.invariant
