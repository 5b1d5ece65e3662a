use Rattle.std.proofs.Common.{◌≡◌, ◌+◌, ◌*◌, ◌<◌, length, get_or, arith}
use Rattle.sii_words.proofs.WordBytes.{bytes_of-more, take-two_set}
use Rattle.sii_words.proofs.layout.write_bytes.Goals as goal

pub loop-i-preserved : goal.loop-i-preserved
loop-i-preserved c =
    let within : 2 * c.loop-i.i + 1 < length c.loop-i.out = omega arith in
    let two : 2 * (c.loop-i.i + 1) ≡ 2 * c.loop-i.i + 2 = omega arith in
    let more = bytes_of-more c.args.words.now c.to_le_bytes.result c.loop-i.i c.loop-i-test.true (c.type_inv.words _) c.to_le_bytes.ensures in
    let written = take-two_set c.loop-i.out (2 * c.loop-i.i) (get_or c.to_le_bytes.result 0 0) (get_or c.to_le_bytes.result 1 0) within in
    rw (two, written, more, c.to_le_bytes.ensures, c.loop-i.invariant)
