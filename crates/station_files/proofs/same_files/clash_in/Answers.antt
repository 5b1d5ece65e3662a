use Rattle.std.proofs.Common.{arith, ◌+◌}
use Rattle.std.proofs.lemmas.List.{take_rest}
use Rattle.station_files.proofs.Separate.{met_at, none_more}
use Rattle.station_files.proofs.same_files.clash_in.Goals as goal

pub returns-in-Some : goal.returns-in-Some
returns-in-Some c =
    met_at c.args.written c.loop-one.one c.in-Some.at c.args.found.now c.index-found-one.result c.loop-one-test.true (omega (arith, c.loop-one-test.true, c.requires)) c.index-found-one.is
    (rw (take_rest c.args.found.now (c.loop-one.one + 1)) at c.in-Some.ensures.0) (rw (take_rest c.args.found.now (c.loop-one.one + 1)) at c.in-Some.ensures.1)

pub loop-one-preserved : goal.loop-one-preserved
loop-one-preserved c = λ rest.
    c.loop-one.invariant (none_more c.args.written c.loop-one.one c.args.found.now c.index-found-one.result c.loop-one-test.true (omega (arith, c.loop-one-test.true, c.requires)) c.index-found-one.is (rw (take_rest c.args.found.now (c.loop-one.one + 1)) at c.in_default.ensures) rest)
