use Rattle.std.proofs.Common.{◌≡◌, ◌*◌, ◌<◌, length, arith}
use Rattle.sii_words.proofs.WordBytes.{word_read}
use Rattle.sii_words.proofs.layout.read_bytes.Goals as goal

pub loop-i-preserved : goal.loop-i-preserved
loop-i-preserved c =
    let within : c.loop-i.i < length c.loop-i.words = omega (arith, c.loop-i.auto.words) in
    let count : length c.args.bytes.now ≡ 2 * length c.loop-i.words = omega (arith, c.loop-i.auto.words, c.requires) in
    word_read c.loop-i.words c.args.bytes.now c.loop-i.i c.from_le_bytes.result within count c.type_inv.bytes c.from_le_bytes.ensures c.loop-i.invariant
