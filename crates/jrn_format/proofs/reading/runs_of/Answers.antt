use Rattle.std.proofs.lemmas.Result.{err_from_is_err_and}
use Rattle.jrn_format.specs.steps.Reading.{counted, run_at}
use Rattle.jrn_format.proofs.Counting.{counts_on, counts_out, count_fails}
use Rattle.jrn_format.proofs.reading.runs_of.Goals as goal

pub returns-in_err-run : goal.returns-in_err-run
returns-in_err-run c =
    let p = err_from_is_err_and c.from_residual.result c.from_residual.ensures.1 in
    rw (p.1, p.2) (count_fails run_at c.in_err-run.field-0.0 c.loop.runs.items c.args.count c.loop.counter c.loop.rest.now (counted run_at c.args.count c.args.bytes.now) c.loop-test.true c.in_err-run.ensures c.loop.invariant)

pub loop-preserved : goal.loop-preserved
loop-preserved c = rw c.in_ok-push.ensures.items (counts_on run_at c.loop.runs.items c.args.count c.loop.counter c.loop.rest.now c.in_ok-run.run' c.in_ok-run.after.now (counted run_at c.args.count c.args.bytes.now) c.loop-test.true c.in_ok-run.ensures c.loop.invariant)

pub returns : goal.returns
returns c = rw c.from_vec.ensures (counts_out run_at c.loop.runs.items c.args.count c.loop.counter c.loop.rest.now (counted run_at c.args.count c.args.bytes.now) c.loop-test.false c.loop.invariant)
