use Rattle.std.proofs.Common.{arith, refl}
use Rattle.ecat_frame.specs.Fault.{other_type}
use Rattle.ecat_frame.proofs.Front.{has_header, header_inside, header_outside}
use Rattle.ecat_frame.proofs.reading.inside_of.Goals as goal

pub returns-then-header-ne-TYPE-clause-err : goal.returns-then-header-ne-TYPE-clause-err
returns-then-header-ne-TYPE-clause-err c =
    let header = has_header c.args.bytes.now (λ i. omega (arith, c.type_inv.bytes i)) c.in-len2-up.len_at_least _ c.from_le_bytes-header.ensures in
    other_type _ _ _ header c.if-header-ne-TYPE.true refl

pub returns-then-stated-gt-MAX_INSIDE-clause-err : goal.returns-then-stated-gt-MAX_INSIDE-clause-err
returns-then-stated-gt-MAX_INSIDE-clause-err c =
    let header = has_header c.args.bytes.now (λ i. omega (arith, c.type_inv.bytes i)) c.in-len2-up.len_at_least _ c.from_le_bytes-header.ensures in
    header_outside _ _ _ header c.if-header-ne-TYPE.false c.then-stated-gt-MAX_INSIDE.either

pub returns-clause-ok : goal.returns-clause-ok
returns-clause-ok c =
    let header = has_header c.args.bytes.now (λ i. omega (arith, c.type_inv.bytes i)) c.in-len2-up.len_at_least _ c.from_le_bytes-header.ensures in
    header_inside _ _ _ header c.if-header-ne-TYPE.false c.if-stated-after.false c.if-stated-gt-MAX_INSIDE.false
