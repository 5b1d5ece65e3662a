use Rattle.std.proofs.Common.{bit_xor, arith}
use Rattle.sii_words.proofs.ShiftRegister.{shifts_none, shifts_next, shifts_byte}
use Rattle.sii_bytes.proofs.alias.folded.Goals as goal

pub loop-init : goal.loop-init
loop-init c = shifts_none (bit_xor c.args.remainder c.args.byte)

pub loop-preserved : goal.loop-preserved
loop-preserved c = shifts_next c.loop.counter (bit_xor c.args.remainder c.args.byte) c.loop.next c.shifted-next.result c.loop.invariant c.shifted-next.ensures

pub returns : goal.returns
returns c = shifts_byte c.args.byte c.args.remainder c.loop.next c.loop.counter (omega arith) c.loop.invariant
