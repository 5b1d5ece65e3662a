use Rattle.std.proofs.Common.{refl, rules}
use Rattle.ecat_frame.proofs.SoFar.{goes_on, has_room, breaks_off, goes_past}
use Rattle.ecat_frame.proofs.frame.Frame.read.Goals as goal

pub returns-in_default-clause-err : goal.returns-in_default-clause-err
returns-in_default-clause-err c =
    rw c.fault_at.ensures (breaks_off c.args.inside.now c.loop-more.rest.now c.loop-more.frame c.loop-more.more _ c.loop-more.invariant c.loop-more-test.true (search rules) c.in_default.ensures.none refl)

pub append-requires : goal.append-requires
append-requires c =
    has_room c.args.inside.now c.loop-more.rest.now _ c.loop-more.frame _ _ _ c.loop-more.invariant c.requires c.in-Some.ensures.entire

pub loop-more-preserved : goal.loop-more-preserved
loop-more-preserved c =
    rw c.append.ensures (goes_on c.args.inside.now c.loop-more.rest.now _ c.loop-more.frame _ _ _ c.loop-more.invariant c.loop-more-test.true c.in-Some.ensures.entire)

pub returns-then-not-is_empty-clause-err : goal.returns-then-not-is_empty-clause-err
returns-then-not-is_empty-clause-err c =
    rw c.fault_at-then-not-is_empty.ensures (goes_past c.args.inside.now c.loop-more.rest.now c.loop-more.frame c.loop-more.more _ c.loop-more.invariant c.loop-more-test.false (search rules) refl)
