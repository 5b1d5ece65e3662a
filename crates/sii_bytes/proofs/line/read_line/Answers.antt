use Rattle.std.proofs.Common.{arith}
use Rattle.sii_bytes.proofs.LineRead.{slave-count}
use Rattle.sii_bytes.proofs.line.read_line.Goals as goal

pub of-requires-clause-some : goal.of-requires-clause-some
of-requires-clause-some c =
    let count = slave-count c.args.lengths.now c.args.bytes.now c.in_ok-slaves.slaves.items c.in_ok-slaves.ensures.ok.1 in
    let len = c.in_ok-slaves.slaves.ok.0 in
    let reported = c.is_empty.ensures in
    let some = c.if-is_empty.false in
    grind arith

pub of-requires-clause-most : goal.of-requires-clause-most
of-requires-clause-most c =
    let count = slave-count c.args.lengths.now c.args.bytes.now c.in_ok-slaves.slaves.items c.in_ok-slaves.ensures.ok.1 in
    let len = c.in_ok-slaves.slaves.ok.0 in
    let few = c.if-lengths-gt-MAX_SLAVES.false in
    omega arith
