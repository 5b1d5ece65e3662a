use Rattle.std.proofs.Common.{◌<◌, take, flat_map}
use Rattle.sii_words.specs.CheckByte.{bits_of_byte}
use Rattle.sii_words.specs.steps.ShiftRegister.{ShiftsThrough}
use Rattle.sii_bytes.proofs.alias.check_byte.Given as goal

abbrev pub invariant-loop-byte : goal.invariant-loop-byte
invariant-loop-byte l = record {
  fits : l.remainder < 256;
  shifts : ShiftsThrough (flat_map bits_of_byte (take l.byte-index l.byte-items)) 255 l.remainder;
}
