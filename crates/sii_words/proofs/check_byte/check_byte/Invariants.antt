use Rattle.std.proofs.Common.{◌<◌, take, flat_map}
use Rattle.sii_words.specs.Words.{bytes_of}
use Rattle.sii_words.specs.CheckByte.{bits_of_byte}
use Rattle.sii_words.specs.steps.ShiftRegister.{ShiftsThrough}
use Rattle.sii_words.proofs.check_byte.check_byte.Given as goal

abbrev pub invariant-loop-word : goal.invariant-loop-word
invariant-loop-word l = record {
  fits : l.remainder < 256;
  shifts : ShiftsThrough (flat_map bits_of_byte (bytes_of (take l.word-index l.word-items))) 255 l.remainder;
}
