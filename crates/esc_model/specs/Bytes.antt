-- Bytes in order: overwriting a part of them, and numbers of 16 and 32 bits, the low byte first.
use Rattle.std.specs.Prelude.{ℕ, ◌+◌, ◌*◌, ◌/◌, ◌%◌, List, ◌++◌, length, take, drop, slice_index, nat_lt, nat_le, Bool, ◌&&◌}

-- the bytes, overwritten from `at` on; they grow where `over` reaches past their end
abbrev pub overlaid : List ℕ → ℕ → List ℕ → List ℕ
overlaid bytes at over = take at bytes ++ over ++ drop (at + length over) bytes

-- the number of 16 bits at this place
abbrev pub word_at : List ℕ → ℕ → ℕ
word_at bytes at = slice_index bytes at + 256 * slice_index bytes (at + 1)

-- the number of 32 bits at this place
abbrev pub double_word_at : List ℕ → ℕ → ℕ
double_word_at bytes at = word_at bytes at + 65536 * word_at bytes (at + 2)

-- The `count` bytes from `start` on are at least one, and all lie from `from` up to, but without, `to`.
abbrev pub lies_in : ℕ → ℕ → ℕ → ℕ → Bool
lies_in from to start count = nat_lt 0 count && nat_le from start && nat_le (start + count) to

-- the station address in the address of an FP command: the low 16 bits (ETG.1000.4: ADP)
abbrev pub station_of : ℕ → ℕ
station_of address = address % 65536

-- the register in the address of an FP command: the high 16 bits (ETG.1000.4: ADO)
abbrev pub register_of : ℕ → ℕ
register_of address = address / 65536
