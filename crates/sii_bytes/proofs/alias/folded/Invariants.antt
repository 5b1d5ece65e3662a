use Rattle.std.proofs.Common.{false, replicate, bit_xor}
use Rattle.sii_words.specs.steps.ShiftRegister.{ShiftsThrough}
use Rattle.sii_bytes.proofs.alias.folded.Given as goal

abbrev pub invariant-loop : goal.invariant-loop
invariant-loop l = ShiftsThrough (replicate l.counter false) (bit_xor l.remainder l.byte) l.next
