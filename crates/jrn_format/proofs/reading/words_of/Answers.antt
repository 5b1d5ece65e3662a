use Rattle.std.proofs.lemmas.Result.{err_from_is_err_and}
use Rattle.std.specs.Int.{w16}
use Rattle.jrn_format.specs.steps.Reading.{counted, number_at}
use Rattle.jrn_format.proofs.Counting.{counts_on, counts_out, count_fails}
use Rattle.jrn_format.proofs.reading.words_of.Goals as goal

pub returns-in_err-word : goal.returns-in_err-word
returns-in_err-word c =
    let p = err_from_is_err_and c.from_residual.result c.from_residual.ensures.1 in
    rw (p.1, p.2) (count_fails (number_at w16) c.in_err-word.field-0.0 c.loop.words.items c.args.count c.loop.counter c.loop.rest.now (counted (number_at w16) c.args.count c.args.bytes.now) c.loop-test.true c.in_err-word.ensures c.loop.invariant)

pub loop-preserved : goal.loop-preserved
loop-preserved c = rw c.in_ok-push.ensures.items (counts_on (number_at w16) c.loop.words.items c.args.count c.loop.counter c.loop.rest.now c.in_ok-word.word c.in_ok-word.after.now (counted (number_at w16) c.args.count c.args.bytes.now) c.loop-test.true c.in_ok-word.ensures c.loop.invariant)

pub returns : goal.returns
returns c = rw c.from_vec.ensures (counts_out (number_at w16) c.loop.words.items c.args.count c.loop.counter c.loop.rest.now (counted (number_at w16) c.args.count c.args.bytes.now) c.loop-test.false c.loop.invariant)
