use Rattle.std.proofs.Common.{◌≡◌, ◌++◌}
use Rattle.std.specs.Slice.Iter.{chunks_rest, chunks_size}
use Rattle.hex.specs.Hex.{encode_lower}
use Rattle.station_text.specs.Hexadecimal.{without_whitespace}
use Rattle.station_text.proofs.hexadecimal.hex_lines.Given as goal

abbrev pub invariant-loop-line : goal.invariant-loop-line
invariant-loop-line l =
    goal.iterator-loop-line.can_next l.line-iterator
    × goal.iterator-loop-line.is_finite l.line-iterator
    × (chunks_size l.line-iterator ≡ 32)
    × (without_whitespace (l.text.items ++ chunks_rest l.line-iterator) ≡ encode_lower l.fn.bytes)
