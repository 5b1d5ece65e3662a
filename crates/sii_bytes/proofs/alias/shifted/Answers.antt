use Rattle.std.proofs.Common.{arith}
use Rattle.sii_words.proofs.ShiftRegister.{shifts_zero, shifts_one}
use Rattle.sii_bytes.proofs.alias.shifted.Goals as goal

pub returns-then-remainder-ge128 : goal.returns-then-remainder-ge128
returns-then-remainder-ge128 c = shifts_one c.args.remainder (omega arith) (omega arith)

pub returns-else-remainder-ge128 : goal.returns-else-remainder-ge128
returns-else-remainder-ge128 c = shifts_zero c.args.remainder (omega arith)
